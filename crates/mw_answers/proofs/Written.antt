-- What sources give and sinks take in several calls.
use Rattle.std.proofs.Common.{ℕ, List, [], ◌++◌, Option, Some, None, refl, sym, ap, ◌∙◌, append_assoc, append-nil}
use Rattle.mw_port.specs.Ports.{Gives, Takes, HasEnded}
use Rattle.mw_answers.specs.Statuses.{Has, TakesSome}

pub takes_none : (a : Option (List ℕ)) → Takes a a []
takes_none (Some x) = sym (append-nil x)
takes_none None = tt

pub takes_both : (a b c : Option (List ℕ)) (x y : List ℕ) → Takes a b x → Takes b c y → Takes a c (x ++ y)
takes_both (Some u) (Some v) (Some w) x y p q = q ∙ ap (λ z. z ++ y) p ∙ append_assoc u x y
takes_both None None None x y p q = tt
takes_both (Some u) None c x y p q = absurd p
takes_both None (Some v) c x y p q = absurd p
takes_both (Some u) (Some v) None x y p q = absurd q
takes_both None None (Some w) x y p q = absurd q

-- a prefix of any text
pub nothing_taken : (text : List ℕ) (a : Option (List ℕ)) → TakesSome a a text
nothing_taken text a = ([], text, refl, takes_none a)

-- of a text that goes on
pub some_then : (a b : Option (List ℕ)) (x y : List ℕ) → TakesSome a b x → TakesSome a b (x ++ y)
some_then a b x y t = (t.0, t.1 ++ y, ap (λ u. u ++ y) t.2 ∙ append_assoc t.0 t.1 y, t.3)

pub takes_some : (a b : Option (List ℕ)) (x : List ℕ) → Takes a b x → TakesSome a b x
takes_some a b x t = (x, [], sym (append-nil x), t)

pub takes_then : (a b c : Option (List ℕ)) (x y : List ℕ) → Takes a b x → TakesSome b c y → TakesSome a c (x ++ y)
takes_then a b c x y p t = (x ++ t.0, t.1, ap (λ u. x ++ u) t.2 ∙ sym (append_assoc x t.0 t.1), takes_both a b c x t.0 p t.3)

pub gives_none : (a : Option (List ℕ)) → Gives a a []
gives_none (Some x) = refl
gives_none None = tt

pub gives_both : (a b c : Option (List ℕ)) (x y : List ℕ) → Gives a b x → Gives b c y → Gives a c (x ++ y)
gives_both (Some u) (Some v) (Some w) x y p q = p ∙ ap (λ z. x ++ z) q ∙ sym (append_assoc x y w)
gives_both None None None x y p q = tt
gives_both (Some u) None c x y p q = absurd p
gives_both None (Some v) c x y p q = absurd p
gives_both (Some u) (Some v) None x y p q = absurd q
gives_both None None (Some w) x y p q = absurd q

-- the bytes that are left; none where they are not told
abbrev pub left_of : Option (List ℕ) → List ℕ
left_of (Some x) = x
left_of None = []

pub gives_has : (a b : Option (List ℕ)) (x : List ℕ) → Gives a b x → Has a (x ++ left_of b)
gives_has (Some u) (Some v) x p = p
gives_has None None x p = tt
gives_has (Some u) None x p = absurd p
gives_has None (Some v) x p = absurd p

pub ended_has : (a b : Option (List ℕ)) (x : List ℕ) → Gives a b x → HasEnded b → Has a x
ended_has (Some u) (Some v) x p e = p ∙ ap (λ z. x ++ z) e ∙ append-nil x
ended_has None None x p e = tt
ended_has (Some u) None x p e = absurd p
ended_has None (Some v) x p e = absurd p

-- a call that gives nothing
pub still_ended : (a b : Option (List ℕ)) → Gives a b [] → HasEnded a → HasEnded b
still_ended (Some u) (Some v) p e = sym p ∙ e
still_ended None None p e = tt
still_ended (Some u) None p e = absurd p
still_ended None (Some v) p e = absurd p
