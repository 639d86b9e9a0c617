-- A list of three is tested by its second member alone, and then as a list of three with that member.
use Rattle.std.proofs.Common.{◌≡◌, Bool, true, false, ◌&&◌, refl, sym, ap}
use Rattle.mw_model.specs.Terms.Object.{Object, Natural, Symbol, Pair, same_object, second_of, list1, list3}
use Rattle.mw_model.proofs.Names.{same_object-refl}

and-false : (b : Bool) → false ≡ (b && false)
and-false true = refl
and-false false = refl

and-and_false : (a b : Bool) → (a && false) ≡ (b && (a && false))
and-and_false true b = and-false b
and-and_false false b = and-false b

-- three tests in another order, beside one that holds
regroup : (h p r q : Bool) → q ≡ true → (h && (p && r)) ≡ (p && (h && (q && r)))
regroup true true true q e = sym (ap (λ b. b && true) e)
regroup true true false q e = and-false q
regroup true false r q e = refl
regroup false true r q e = refl
regroup false false r q e = refl

pub by_members : (c h p z : Object) → same_object c (list3 h p z) ≡ (same_object (second_of c) p && same_object c (list3 h (second_of c) z))
by_members (Natural n) h p z = and-false _
by_members (Symbol s) h p z = and-false _
by_members (Pair g (Natural n)) h p z = and-and_false (same_object g h) _
by_members (Pair g (Symbol s)) h p z = and-and_false (same_object g h) _
by_members (Pair g (Pair q r)) h p z = regroup (same_object g h) (same_object q p) (same_object r (list1 z)) (same_object q q) (same_object-refl q)
