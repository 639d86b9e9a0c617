-- An equality whose left side is a call of a pair is a reduction when its right side is what the call reduces to.
use Rattle.std.proofs.Common.{◌≡◌, true, ◌&&◌, sym, ap, ◌∙◌}
use Rattle.mw_model.specs.Terms.Object.{Object, Pair, same_object, car, second_of, third_of}
use Rattle.mw_model.specs.Values.Primitive.{is_pair}
use Rattle.mw_model.specs.Laws.Rules.{is_equal_object, beta_object, object_is_beta}

pub beta_of_call : (c f a p q t : Object) → is_equal_object c ≡ true → second_of c ≡ Pair f a → f ≡ Pair p q → third_of c ≡ t → same_object t (beta_object (Pair f a)) ≡ object_is_beta c
beta_of_call c f a p q t equal left pair right =
    sym (ap (λ b. b && (is_pair (car (second_of c)) && same_object (third_of c) (beta_object (second_of c)))) equal
    ∙ (ap (λ s. is_pair (car s) && same_object (third_of c) (beta_object s)) left
    ∙ (ap (λ g. is_pair g && same_object (third_of c) (beta_object (Pair f a))) pair
    ∙ ap (λ r. same_object r (beta_object (Pair f a))) right)))
