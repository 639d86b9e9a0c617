pub mod OnStack
pub mod TableMeans
