-- One event more of an explained book.
use Rattle.std.proofs.Common.{◌≡◌, ℕ, true, List, [], ◌++◌, codes, refl, sym, ap, ◌∙◌, subst, append_assoc}
use Rattle.mw_model.specs.Terms.Object.{Object}
use Rattle.mw_model.specs.Reports.Request.{Explain}
use Rattle.mw_model.specs.Events.Refusal.{RANGE, Fate, Accepted, Refused}
use Rattle.mw_model.specs.Events.Fate.{is_out_of_range, fate, next}
use Rattle.mw_model.specs.Reports.Report.{line}
use Rattle.mw_commands.specs.Commands.Transition.{Transition}
use Rattle.mw_commands.specs.Commands.ExplanationBook.{OwesExplained, OwesWhy}
use Rattle.mw_kernel.specs.Knowledge.{Knowledge, theory_of}
use Rattle.mw_kernel.specs.Explained.{PutsWhy}
use Rattle.mw_book.specs.Lines.{line_begun}
use Rattle.mw_answers.specs.Effects.{plain}
use Rattle.mw_book.specs.Judged.{Tells}
use Rattle.mw_book.specs.Pieces.{explained_piece}
use Rattle.mw_answers.proofs.CallerLemmas.{event_after}
use Rattle.mw_book.proofs.OneEvent.{pieces_more, refused_text, tells_plain}
use Rattle.mw_book.proofs.Showing.{fate-large, next-large}

-- the comment and the line of the datum are those that are owed
piece_owed : (N : ℕ) (s : Transition) (f : Fate) (begun datum : List ℕ) → begun ≡ codes "; " ++ line_begun s.number s.event → PutsWhy s.number f s.before N s.event [] datum → OwesWhy N s f (explained_piece f begun datum)
piece_owed N s (Accepted value) begun datum first puts = refl
piece_owed N s (Refused r) begun datum first puts =
    let text = line s.number s.event (Refused r) in (
      puts.0,
      puts.1,
      ap (λ u. u ++ datum) (refused_text r s begun first) ∙ append_assoc (codes "; ") text datum ∙ ap (λ u. codes "; " ++ (text ++ u)) puts.2,
    )

-- What is put in place of the last datum, which was cleared, says why.
pub explained_one : (k l : Knowledge) (number : ℕ) (y : Object) (f : Fate) (begun cleared datum piece : List ℕ) →
    f ≡ fate (theory_of k) y k.steps →
    theory_of l ≡ next (theory_of k) y k.steps →
    l.steps ≡ k.steps →
    begun ≡ codes "; " ++ line_begun number y →
    cleared ≡ [] →
    PutsWhy number f (theory_of k) k.steps y cleared datum →
    piece ≡ explained_piece f begun datum →
    Tells Explain plain k number y f l piece
explained_one k l number y f begun cleared datum piece comes goes kept first none puts written =
    tells_plain Explain k l number y f piece comes goes kept
    (λ N given stands steps count fate_is text expected.
    let s = event_after (plain N) given y in
    let why =
    subst (λ c. PutsWhy s.number f s.before N y c datum) none
    (subst (λ n. PutsWhy n f s.before N y cleared datum) count
    (subst (λ m. PutsWhy number f s.before m y cleared datum) steps (subst (λ t. PutsWhy number f t k.steps y cleared datum) stands puts)))
    in
    let owed = piece_owed N s f begun datum (first ∙ ap (λ n. codes "; " ++ line_begun n y) count) why in
    pieces_more (plain N) given y (OwesExplained N) text piece expected (subst (OwesWhy N s s.fate) (sym written) (subst (λ g. OwesWhy N s g (explained_piece f begun datum)) fate_is owed)))

-- the same where the event has a natural past the range
pub explained_large : (k l : Knowledge) (number : ℕ) (y : Object) (begun cleared datum piece : List ℕ) → is_out_of_range y ≡ true →
    theory_of l ≡ theory_of k →
    l.steps ≡ k.steps →
    begun ≡ codes "; " ++ line_begun number y →
    cleared ≡ [] →
    PutsWhy number (Refused RANGE) (theory_of k) k.steps y cleared datum →
    piece ≡ explained_piece (Refused RANGE) begun datum →
    Tells Explain plain k number y (Refused RANGE) l piece
explained_large k l number y begun cleared datum piece large theory =
    let t = theory_of k in
    let n = k.steps in
    explained_one k l number y (Refused RANGE) begun cleared datum piece (sym (fate-large t y n large)) (theory ∙ sym (next-large t y n large))
