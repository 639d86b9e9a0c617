pub mod ConstantTests
pub mod PrimitiveValues
