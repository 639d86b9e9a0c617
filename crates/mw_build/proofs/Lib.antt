pub mod OnStack
mod Taking
mod OneMore
