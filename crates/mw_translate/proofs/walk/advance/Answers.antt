-- The part waits below the one that it wants, or it was made.
use Rattle.std.proofs.Common.{◌∷◌, [], ◌++◌, inl, inr, refl, ap, ◌∙◌, append_assoc}
use Rattle.mw_translate.proofs.walk.advance.Goals as goal

pub returns-in_ok-push-in-Wants-2-clause-advanced : goal.returns-in_ok-push-in-Wants-2-clause-advanced
returns-in_ok-push-in-Wants-2-clause-advanced c =
    let path = c.args.path.now.items in
    let inner = c.in-Wants.inner in
    let wanted = rw c.in-Wants.is at c.in_ok-inner.ensures.step in
    let both = ap (λ ps. ps ++ inner ∷ []) c.in_ok-push-in-Wants.ensures.items ∙ append_assoc path (c.args.part ∷ []) (inner ∷ []) in
    inr (inner, wanted.0, wanted.1, wanted.2, refl, c.in_ok-push-in-Wants-2.ensures.items ∙ both)

pub returns-in_ok-add-in-Made-clause-advanced : goal.returns-in_ok-add-in-Made-clause-advanced
returns-in_ok-add-in-Made-clause-advanced c =
    let made = rw c.in-Made.is at c.in_ok-inner.ensures.step in
    inl (c.in-Made.made, made.0, made.1, c.in_ok-add-in-Made.ensures.added, refl)
