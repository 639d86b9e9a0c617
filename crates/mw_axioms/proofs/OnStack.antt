-- What callers use of a stack.
pub use Rattle.mw_build.proofs.OnStack.{AreIn-push}
