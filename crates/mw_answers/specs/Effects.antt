-- What events do, by a step limit, and how many of a book are refused by that.
use Rattle.std.specs.Prelude.{◌≡◌, ℕ, suc, ◌+◌, Bool, true, false, not, cond, List, [], ◌∷◌, refl}
use Rattle.std.proofs.Common.{ap}
use Rattle.mw_model.specs.Terms.Object.{Object}
use Rattle.mw_model.specs.Values.Primitive.{One}
use Rattle.mw_model.specs.Events.Theory.{Theory, initial}
use Rattle.mw_model.specs.Events.Fate.{happens}
use Rattle.mw_model.specs.Events.Demand.{happens_under}
use Rattle.mw_model.specs.Reports.Report.{is_accepted, refused_among}
use Rattle.mw_model.specs.Reports.Request.{Check, Explain, Lower}
use Rattle.mw_commands.specs.Commands.DerivationTest.{derived_as}
use Rattle.mw_commands.specs.Commands.Transition.{Effect, course, course_from}
use Rattle.mw_commands.specs.Commands.Lowering.{refused_in}
use Rattle.mw_answers.specs.LastTexts.{refused_for}

-- by the theory's own checker
abbrev pub plain : ℕ → Effect
plain N t e = happens t N e

-- with derivations as good as proofs
abbrev pub derived : ℕ → Effect
derived N t e = happens_under derived_as t N e

one_more : (b : Bool) (m n : ℕ) → m ≡ n → cond (not b) 1 0 + m ≡ cond b 0 1 + n
one_more true m n h = ap (λ k. 0 + k) h
one_more false m n h = ap (λ k. 1 + k) h

refused_from : (N k : ℕ) (t : Theory) (es : List Object) → refused_in (course_from (plain N) k t es) ≡ refused_among t es N
refused_from N k t [] = refl
refused_from N k t (e ∷ es) = one_more (is_accepted (happens t N e).0) _ _ (refused_from N (suc k) (happens t N e).1 es)

pub refused_as_reported : (N : ℕ) (given : List Object) → refused_in (course (plain N) given) ≡ refused_for (Check N) given
refused_as_reported N given = refused_from N 1 (initial One) given

pub refused_in_plain : (N : ℕ) (given : List Object) → refused_in (course (plain N) given) ≡ refused_for (Explain N) given
refused_in_plain N given = refl

pub refused_in_derived : (N : ℕ) (given : List Object) → refused_in (course (derived N) given) ≡ refused_for (Lower N) given
refused_in_derived N given = refl
