-- The lines due for bytes are a prefix of the lines and of the report on more bytes.
use Rattle.std.proofs.Common.{◌≡◌, ℕ, suc, ◌+◌, ◌-◌, ◌≤◌, Bool, true, false, leb, List, [], ◌∷◌, ◌++◌, length, take, Option, Some, None, refl, sym, ap, ◌∙◌, subst, arith, append_assoc, append-nil, if◌then◌else◌}
use Rattle.std.proofs.Math.Seq.{take-append-add}
use Rattle.mw_model.specs.Terms.Object.{Object}
use Rattle.mw_model.specs.Values.Primitive.{One}
use Rattle.mw_model.specs.Texts.Lexemes.{Fault, Ends, Goes}
use Rattle.mw_model.specs.Texts.Grammar.{Book, book, reading, limit, cut_short, trees}
use Rattle.mw_model.specs.Events.Theory.{Theory, initial}
use Rattle.mw_model.specs.Events.Fate.{fate, next, after}
use Rattle.mw_model.specs.Reports.Report.{line, lines, report, last_line}
use Rattle.mw_model.specs.Laws.Lines.{lines_so_far}
use Rattle.mw_model.proofs.ReadingGrows.{BookGrows, reading_grows}

-- ---- a whole book

cut_grows : (a b : Book) → BookGrows a b → BookGrows a (cut_short b)
cut_grows a b g = record { more = g.more; events = same_events b.events b.fault ∙ g.events; same = λ f h. still b.events b.fault f (ap (λ u. u.fault) (g.same f h) ∙ h) ∙ g.same f h }
  where
    same_events : (xs : List Object) (s : Option Fault) → (cut_short (book xs s)).events ≡ xs
    same_events xs None = refl
    same_events xs (Some f) = refl

    still : (xs : List Object) (s : Option Fault) (f : Fault) → s ≡ Some f → cut_short (book xs s) ≡ book xs s
    still xs None f h = cc
    still xs (Some t) f h = refl

-- Of a book that is too long nothing past the limit is read, so the first bytes may not pass it.
pub trees_grow : (g h : List ℕ) → length g ≤ limit → BookGrows (reading Goes g) (trees (g ++ h))
trees_grow g h l = go (leb (length (g ++ h)) limit)
  where
    within : limit ≡ length g + (limit - length g)
    within = omega arith

    go : (v : Bool) → BookGrows (reading Goes g) (if v then reading Ends (g ++ h) else cut_short (reading Goes (take limit (g ++ h))))
    go true = reading_grows Ends g h
    go false =
        let x = take (limit - length g) h in
        subst (λ u. BookGrows (reading Goes g) (cut_short (reading Goes u))) (sym (ap (λ n. take n (g ++ h)) within ∙ take-append-add g h (limit - length g))) (cut_grows (reading Goes g) (reading Goes (g ++ x)) (reading_grows Goes g x))

-- ---- lines

lines_both : (t : Theory) (k : ℕ) (a b : List Object) (N : ℕ) → lines k t (a ++ b) N ≡ lines k t a N ++ lines (k + length a) (after t a N) b N
lines_both t k [] b N = ap (λ n. lines n t b N) (let e : k ≡ k + 0 = omega arith in e)
lines_both t k (x ∷ a) b N =
    ap (λ u. line k x (fate t x N) ++ u) (lines_both (next t x N) (suc k) a b N ∙ ap (λ n. lines (suc k) (next t x N) a N ++ lines n (after (next t x N) a N) b N) (let e : suc k + length a ≡ k + suc (length a) = omega arith in e))
    ∙ sym (append_assoc (line k x (fate t x N)) (lines (suc k) (next t x N) a N) (lines (k + suc (length a)) (after (next t x N) a N) b N))

-- from any theory, with any last line
pub lines_first : (t : Theory) (given more all : List Object) (N : ℕ) (last : List ℕ) → all ≡ given ++ more → (rest : List ℕ) × (lines 1 t all N ++ last ≡ lines 1 t given N ++ rest)
lines_first t given more all N last e = (
  lines (1 + length given) (after t given N) more N ++ last,
  ap (λ u. u ++ last) (ap (λ u. lines 1 t u N) e ∙ lines_both t 1 given more N)
      ∙ append_assoc (lines 1 t given N) (lines (1 + length given) (after t given N) more N) last,
)

pub lines_grow : (g h : List ℕ) (N : ℕ) → (more : List ℕ) × (lines_so_far (g ++ h) N ≡ lines_so_far g N ++ more)
lines_grow g h N =
    let b = reading_grows Goes g h in
    let p = lines_first (initial One) (reading Goes g).events b.more (reading Goes (g ++ h)).events N [] b.events in
    (p.0, sym (append-nil (lines_so_far (g ++ h) N)) ∙ p.1)

pub report_begins : (g h : List ℕ) (N : ℕ) → length g ≤ limit → (more : List ℕ) × ((report (g ++ h) N).text ≡ lines_so_far g N ++ more)
report_begins g h N l =
    let b = trees_grow g h l in
    lines_first (initial One) (reading Goes g).events b.more (trees (g ++ h)).events N (last_line (trees (g ++ h)) N) b.events
