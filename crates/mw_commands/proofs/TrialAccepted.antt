-- The trial book is read as its events, each of which is a theorem that is proved from nothing; so all are accepted.
use Rattle.std.proofs.Common.{◌≡◌, ℕ, zero, suc, ◌+◌, ◌-◌, ◌*◌, ◌%◌, ◌<◌, ◌≤◌, ◌^◌, Bool, true, false, not, cond, eqb, leb, ltb, List, [], ◌∷◌, ◌++◌, length, take, drop, Option, Some, None, refl, sym, ap, ◌∙◌, subst, arith, append_assoc, append-nil, length-append, lt-ltb, leb-true, leb-false, if◌then◌else◌}
use Rattle.std.proofs.lemmas.List.{take-append-drop, take-append-le}
use Rattle.mw_model.specs.Terms.Object.{Object, Natural, symbol, NIL}
use Rattle.mw_model.specs.Terms.Term.{Or, Not, formula_object, ArityTable, is_formula}
use Rattle.mw_model.specs.Values.Primitive.{One, Plus}
use Rattle.mw_model.specs.Values.Definition.{arity_table}
use Rattle.mw_model.specs.Values.Truth.{Each}
use Rattle.mw_model.specs.Proofs.Proof.{Proves, proof, no_proofs, more_proofs, two, three, BaseEval, PropositionalSchema, Expansion, Cut, by_base, by_schema, by_expansion, by_cut}
use Rattle.mw_model.specs.Events.Theory.{initial}
use Rattle.mw_model.specs.Events.Evaluation.{range}
use Rattle.mw_model.specs.Texts.Lexemes.{Fault, LENGTH, fault, Ends, Goes, lexemes_from}
use Rattle.mw_model.specs.Texts.Grammar.{Book, book, limit, reading, cut_short, trees}
use Rattle.mw_model.specs.Reports.Report.{status_of, report_of, accepted_among, refused_among}
use Rattle.mw_model.specs.Reports.Trial.{sum_formula, x_formula, odd_line, even_line, trial_line, trial_book}
use Rattle.mw_model.proofs.TextReadBack.{within_limit}
use Rattle.mw_model.proofs.ReadingGrows.{reading_grows}
use Rattle.mw_print.proofs.LabelLexemes.{nine_digits}
use Rattle.mw_commands.specs.Headlines.{AcceptsAll}
use Rattle.mw_commands.proofs.WrittenRead.{ReadAs, line_read, whole_read, nothing_read}
use Rattle.mw_commands.proofs.Theorems.{IsTheorem, all_accepted, none_refused}
use Rattle.mw_commands.proofs.Tautologies.{each_left}
use Rattle.mw_commands.proofs.TrialLines.{sum_claim, x_claim, sum_proof, or_proof, trial_theorem, odd_read, even_read, odd_short, even_short}

-- ---- proofs

abbrev arities : ArityTable
arities = arity_table (initial One).definitions

sum_formed : (a b : ℕ) → is_formula arities (sum_claim a b) ≡ true
sum_formed a b = refl

either_formed : (a b : ℕ) → is_formula arities (Or (sum_claim a b) (x_claim a)) ≡ true
either_formed a b = refl

sum_proved : (a b : ℕ) → Proves NIL NIL arities One (sum_proof a b) (sum_claim a b)
sum_proved a b = proof _ NIL NIL BaseEval (sum_claim a b) [] (two _ _) (sum_formed a b) no_proofs (by_base _ Plus (Natural a ∷ Natural b ∷ []) refl)

either_proved : (a b : ℕ) → Proves NIL NIL arities One (or_proof (sum_claim a b) (x_claim a) (sum_proof a b)) (Or (sum_claim a b) (x_claim a))
either_proved a b =
    let F = sum_claim a b in
    let G = x_claim a in
    let expanded = proof _ _ NIL Expansion (Or G F) (F ∷ []) (three _ _ _) refl (more_proofs _ NIL F [] (sum_proved a b) no_proofs) (by_expansion F G) in
    let schema = proof _ NIL NIL PropositionalSchema (Or (Not G) G) [] (two _ _) refl no_proofs (by_schema G) in
    proof _ _ NIL Cut (Or F G) (Or G F ∷ Or (Not G) G ∷ []) (three _ _ _) (either_formed a b) (more_proofs _ _ (Or G F) (Or (Not G) G ∷ []) expanded (more_proofs _ NIL (Or (Not G) G) [] schema no_proofs)) (by_cut G F G)

-- ---- events

in_range : (n : ℕ) → n < range → not (ltb n range) ≡ false
in_range n h = ap not (lt-ltb n range h)

module _ (a b : ℕ) (a_in : a < range) (b_in : b < range) (sum_in : a + b < range) where
  odd_theorem : IsTheorem (initial One).definitions (trial_theorem (sum_claim a b) (sum_proof a b))
  odd_theorem = record {
    name = symbol "TRIAL";
    claim = formula_object (sum_claim a b);
    witness = sum_proof a b;
    F = sum_claim a b;
    is = refl;
    named = refl;
    claims = refl;
    proves = sum_proved a b;
    in_range = rw (in_range a a_in) (rw (in_range b b_in) (rw (in_range (a + b) sum_in) refl));
  }

  even_theorem : IsTheorem (initial One).definitions (trial_theorem (Or (sum_claim a b) (x_claim a)) (or_proof (sum_claim a b) (x_claim a) (sum_proof a b)))
  even_theorem = record {
    name = symbol "TRIAL";
    claim = formula_object (Or (sum_claim a b) (x_claim a));
    witness = or_proof (sum_claim a b) (x_claim a) (sum_proof a b);
    F = Or (sum_claim a b) (x_claim a);
    is = refl;
    named = refl;
    claims = refl;
    proves = either_proved a b;
    in_range = rw (in_range a a_in) (rw (in_range b b_in) (rw (in_range (a + b) sum_in) refl));
  }

-- the event of a line, by whether its number is odd
abbrev event_by : Bool → ℕ → ℕ → Object
event_by odd a b = cond odd (trial_theorem (sum_claim a b) (sum_proof a b)) (trial_theorem (Or (sum_claim a b) (x_claim a)) (or_proof (sum_claim a b) (x_claim a) (sum_proof a b)))

abbrev trial_event : ℕ → Object
trial_event i = event_by (eqb (i % 2) 1) i ((i * i) % 1000)

event_read : (odd : Bool) (a b : ℕ) → reading Ends (cond odd (odd_line (sum_formula a b)) (even_line (sum_formula a b) (x_formula a))) ≡ book (event_by odd a b ∷ []) None
event_read true a b = odd_read a b
event_read false a b = even_read a b

event_theorem : (odd : Bool) (a b : ℕ) → a < range → b < range → a + b < range → IsTheorem (initial One).definitions (event_by odd a b)
event_theorem true a b h k l = odd_theorem a b h k l
event_theorem false a b h k l = even_theorem a b h k l

trial_event_theorem : (i : ℕ) → i ≤ limit → IsTheorem (initial One).definitions (trial_event i)
trial_event_theorem i h =
    let b = (i * i) % 1000 in
    let few : b < 1000 = omega arith in
    event_theorem (eqb (i % 2) 1) i b (omega (arith, h)) (omega (arith, few)) (omega (arith, h, few))

-- ---- the book

-- the events of so many lines, before others
abbrev events_before : ℕ → List Object → List Object
events_before zero xs = xs
events_before (suc m) xs = events_before m (trial_event (suc m) ∷ xs)

count_before : (m : ℕ) (xs : List Object) → length (events_before m xs) ≡ m + length xs
count_before zero xs = omega arith
count_before (suc m) xs = count_before m (trial_event (suc m) ∷ xs) ∙ (let e : m + suc (length xs) ≡ suc m + length xs = omega arith in e)

each_before : (m : ℕ) (xs : List Object) → m ≤ limit → Each (IsTheorem (initial One).definitions) xs → Each (IsTheorem (initial One).definitions) (events_before m xs)
each_before zero xs h t = t
each_before (suc m) xs h t = each_before m (trial_event (suc m) ∷ xs) (omega (arith, h)) (trial_event_theorem (suc m) h, t)

line_first : (i : ℕ) (xs : List Object) (rest : List ℕ) → ((o : ℕ) → ReadAs (lexemes_from Ends o 0 rest) xs) → (o : ℕ) → ReadAs (lexemes_from Ends o 0 (trial_line i ++ rest)) (trial_event i ∷ xs)
line_first i xs rest more o =
    let b = (i * i) % 1000 in
    let t = cond (eqb (i % 2) 1) (odd_line (sum_formula i b)) (even_line (sum_formula i b) (x_formula i)) in
    subst (λ z. ReadAs (lexemes_from Ends o 0 z) (trial_event i ∷ xs)) (sym (append_assoc t (10 ∷ []) rest)) (line_read (trial_event i) xs t rest (event_read (eqb (i % 2) 1) i b) more o)

lines_first : (m : ℕ) (xs : List Object) (rest : List ℕ) → ((o : ℕ) → ReadAs (lexemes_from Ends o 0 rest) xs) → (o : ℕ) → ReadAs (lexemes_from Ends o 0 (trial_book m ++ rest)) (events_before m xs)
lines_first zero xs rest more o = more o
lines_first (suc m) xs rest more o =
    subst (λ z. ReadAs (lexemes_from Ends o 0 z) (events_before (suc m) xs)) (sym (append_assoc (trial_book m) (trial_line (suc m)) rest))
    (lines_first m (trial_event (suc m) ∷ xs) (trial_line (suc m) ++ rest) (line_first (suc m) xs rest more) o)

trial_read : (m : ℕ) → reading Ends (trial_book m) ≡ book (events_before m []) None
trial_read m = whole_read (events_before m []) (trial_book m) (λ o. subst (λ z. ReadAs (lexemes_from Ends o 0 z) (events_before m [])) (append-nil (trial_book m)) (lines_first m [] [] (λ p. nothing_read _) o))

-- a line has a byte at least
some_bytes : (m : ℕ) → m ≤ length (trial_book m)
some_bytes zero = omega arith
some_bytes (suc m) =
    let b = (suc m * suc m) % 1000 in
    let t = cond (eqb (suc m % 2) 1) (odd_line (sum_formula (suc m) b)) (even_line (sum_formula (suc m) b) (x_formula (suc m))) in
    omega (arith, some_bytes m, length-append (trial_book m) (trial_line (suc m)), length-append t (10 ∷ []))

pub trial_is_accepted : (m N : ℕ) → length (trial_book m) ≤ limit → AcceptsAll (trial_book m) N m
trial_is_accepted m N l =
    let is : trees (trial_book m) ≡ book (events_before m []) None = within_limit (trial_book m) l ∙ trial_read m in
    let theorems = each_before m [] (omega (arith, l, some_bytes m)) tt in
    record {
      ends = ap (λ z. (report_of z N).status) is ∙ ap (status_of None) (none_refused (initial One) N refl (events_before m []) theorems);
      accepted = ap (λ z. accepted_among (initial One) z.events N) is ∙ (all_accepted (initial One) N refl (events_before m []) theorems ∙ (count_before m [] ∙ (let e : m + 0 ≡ m = omega arith in e)));
    }

-- ---- how long the book is

line_short : (odd : Bool) (a b : ℕ) → a + b < 10 ^ 9 → length (cond odd (odd_line (sum_formula a b)) (even_line (sum_formula a b) (x_formula a))) < 500
line_short true a b h = odd_short a b (nine_digits a (omega (arith, h))) (nine_digits b (omega (arith, h))) (nine_digits (a + b) (omega (arith, h)))
line_short false a b h = even_short a b (nine_digits a (omega (arith, h))) (nine_digits b (omega (arith, h))) (nine_digits (a + b) (omega (arith, h)))

book_short : (m : ℕ) → m ≤ 10 ^ 6 → length (trial_book m) ≤ 500 * m
book_short zero h = omega arith
book_short (suc m) h =
    let b = (suc m * suc m) % 1000 in
    let few : b < 1000 = omega arith in
    let t = cond (eqb (suc m % 2) 1) (odd_line (sum_formula (suc m) b)) (even_line (sum_formula (suc m) b) (x_formula (suc m))) in
    omega (arith, book_short m (omega (arith, h)), line_short (eqb (suc m % 2) 1) (suc m) b (omega (arith, h, few)), length-append (trial_book m) (trial_line (suc m)), length-append t (10 ∷ []))

pub trial_fits : (m : ℕ) → m ≤ 10 ^ 6 → length (trial_book m) ≤ limit
trial_fits m h = omega (arith, h, book_short m h)

-- ---- a book that is too long: of it a beginning is read

book_begins : (k m : ℕ) → (rest : List ℕ) × (trial_book (m + k) ≡ trial_book k ++ rest)
book_begins k zero = ([], ap trial_book (let e : 0 + k ≡ k = omega arith in e) ∙ sym (append-nil (trial_book k)))
book_begins k (suc m) =
    let b = book_begins k m in
    (b.0 ++ trial_line (suc (m + k)), ap trial_book (let e : suc m + k ≡ suc (m + k) = omega arith in e) ∙ (ap (λ t. t ++ trial_line (suc (m + k))) b.1 ∙ append_assoc (trial_book k) b.0 (trial_line (suc (m + k)))))

begun_theorems : (k : ℕ) (g h : List ℕ) → k ≤ limit → g ++ h ≡ trial_book k → Each (IsTheorem (initial One).definitions) (reading Goes g).events
begun_theorems k g h few is =
    let grown = reading_grows Ends g h in
    let events : events_before k [] ≡ (reading Goes g).events ++ grown.more = sym (ap (λ b. b.events) (ap (reading Ends) is ∙ trial_read k)) ∙ grown.events in
    each_left (IsTheorem (initial One).definitions) (reading Goes g).events grown.more (subst (Each (IsTheorem (initial One).definitions)) events (each_before k [] few tt))

-- the first k bytes, where k is the limit: as a variable, so that no book of 2^40 events is computed
cut_theorems : (k m : ℕ) → k ≡ limit → Each (IsTheorem (initial One).definitions) (reading Goes (take k (trial_book m))).events
cut_theorems k m most = go (leb m k) refl
  where
    go : (b : Bool) → leb m k ≡ b → Each (IsTheorem (initial One).definitions) (reading Goes (take k (trial_book m))).events
    go true e =
        let few : m ≤ k = leb-true m k e in
        begun_theorems m (take k (trial_book m)) (drop k (trial_book m)) (omega (arith, few, most)) (take-append-drop k (trial_book m))
    go false e =
        let more : k < m = leb-false m k e in
        let whole = trial_book k in
        let b = book_begins k (m - k) in
        let is : trial_book m ≡ whole ++ b.0 = ap trial_book (let e : m ≡ (m - k) + k = omega (arith, more) in e) ∙ b.1 in
        let same : take k (trial_book m) ≡ take k whole = ap (take k) is ∙ take-append-le k whole b.0 (some_bytes k) in
        subst (λ g. Each (IsTheorem (initial One).definitions) (reading Goes g).events) (sym same) (begun_theorems k (take k whole) (drop k whole) (omega (arith, most)) (take-append-drop k whole))

cut_events : (b : Book) → (cut_short b).events ≡ b.events
cut_events b = go b.fault
  where
    cut : Option Fault → Book
    cut f = elim f [ Some g ↦ b | None ↦ book b.events (Some (fault LENGTH limit)) ]

    go : (f : Option Fault) → (cut f).events ≡ b.events
    go (Some g) = refl
    go None = refl

trial_theorems : (m : ℕ) → Each (IsTheorem (initial One).definitions) (trees (trial_book m)).events
trial_theorems m = go (leb (length (trial_book m)) limit) refl
  where
    go : (b : Bool) → leb (length (trial_book m)) limit ≡ b → Each (IsTheorem (initial One).definitions) (if b then reading Ends (trial_book m) else cut_short (reading Goes (take limit (trial_book m)))).events
    go true e = subst (λ z. Each (IsTheorem (initial One).definitions) z.events) (sym (trial_read m)) (each_before m [] (omega (arith, leb-true (length (trial_book m)) limit e, some_bytes m)) tt)
    go false e = subst (Each (IsTheorem (initial One).definitions)) (sym (cut_events (reading Goes (take limit (trial_book m))))) (cut_theorems limit m refl)

pub trial_unrefused : (m N : ℕ) → refused_among (initial One) (trees (trial_book m)).events N ≡ 0
trial_unrefused m N = none_refused (initial One) N refl (trees (trial_book m)).events (trial_theorems m)
