-- A list that is mapped member by member.
use Rattle.std.proofs.Common.{◌≡◌, ℕ, ◌+◌, ◌<◌, List, [], ◌∷◌, ◌++◌, length, take, map, get_or, sym, ap, ap₂, ◌∙◌}
use Rattle.std.proofs.lemmas.List.{take_more, map-append}

pub mapped_next : {X Y : Type 0} (f : X → Y) (xs : List X) (i : ℕ) (x : X) (y : Y) (before new : List Y) → i < length xs → x ≡ get_or xs i x → before ≡ map f (take i xs) → new ≡ before ++ y ∷ [] → y ≡ f x → new ≡ map f (take (i + 1) xs)
mapped_next f xs i x y before new within at so_far pushed is =
    pushed
    ∙ (ap₂ (λ ys z. ys ++ z ∷ []) so_far (is ∙ ap f at)
    ∙ sym (ap (map f) (take_more xs i x within) ∙ map-append f (take i xs) (get_or xs i x ∷ [])))
