-- ORD< and ORDP compute the order and the test of ordinals in all definitions that begin with the built-in ones.
use Rattle.std.proofs.Common.{◌≡◌, true, List, Some, refl}
use Rattle.mw_model.specs.Terms.Object.{named}
use Rattle.mw_model.specs.Terms.Term.{arity_of}
use Rattle.mw_model.specs.Values.Primitive.{Profile, One, Two}
use Rattle.mw_model.specs.Values.Definition.{Block, arities, are_blocks}
use Rattle.mw_model.specs.Values.Value.{block_calls}
use Rattle.mw_model.specs.BuiltIns.BuiltIn.{built_in}
use Rattle.mw_model.specs.Events.Theory.{BeginsWith}
use Rattle.mw_model.proofs.Begins.{begins_arity}
use Rattle.mw_descent.proofs.Computed.{ord_less_value, ordp_value}
use Rattle.mw_truth.proofs.Having.{Orders}

less_known : (P : Profile) → arity_of (arities P (built_in P)) (named "ORD<") ≡ Some 2
less_known One = refl
less_known Two = refl

ordp_known : (P : Profile) → arity_of (arities P (built_in P)) (named "ORDP") ≡ Some 1
ordp_known One = refl
ordp_known Two = refl

module _ (P : Profile) (D : List Block) (w : are_blocks P D ≡ true) (begun : BeginsWith (built_in P) D) where
  pub less_arity : arity_of (arities P D) (named "ORD<") ≡ Some 2
  less_arity = begins_arity P (built_in P) D w begun (named "ORD<") 2 (less_known P)

  pub ordp_arity : arity_of (arities P D) (named "ORDP") ≡ Some 1
  ordp_arity = begins_arity P (built_in P) D w begun (named "ORDP") 1 (ordp_known P)

  pub orders : Orders (block_calls P D)
  orders = record { less = ord_less_value P D w begun; ord = ordp_value P D w begun }
