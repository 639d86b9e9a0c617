mod Actuals
mod Calls
mod BetaShapes
