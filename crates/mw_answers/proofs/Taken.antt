-- What was answered of a piece, and after the end of the book.
use Rattle.std.proofs.Common.{◌≡◌, ℕ, ◌+◌, ◌<◌, ◌≤◌, true, List, [], ◌∷◌, ◌++◌, length, take, drop, Some, None, sym, ap, ◌∙◌, subst, arith, append_assoc, append-nil}
use Rattle.std.proofs.lemmas.List.{take_all, take-append-drop, drop-drop, length-drop}
use Rattle.std.proofs.Math.Seq.{take-add}
use Rattle.mw_model.specs.Terms.Object.{Object}
use Rattle.mw_model.specs.Texts.Grammar.{trees}
use Rattle.mw_model.specs.Reports.Request.{Request}
use Rattle.mw_read.specs.Standing.{Stands, IsStanding, Follows, Gives, GivesAfter, Says, work}
use Rattle.mw_read.specs.Feeding.{GivesNext, Continues}
use Rattle.mw_read.specs.declared.parser.Parser.{Parser}
use Rattle.mw_read.specs.declared.reader.Reader.{Reader}
use Rattle.mw_read.specs.declared.step.Step.{Step}
use Rattle.mw_read.specs.declared.step.Step.TheVariants as steps
use Rattle.mw_read.specs.declared.step.SyntaxKind.{SyntaxKind}
use Rattle.mw_read.proofs.Bare.{take_cut}
use Rattle.mw_read.proofs.Beginning.{weight_small}
use Rattle.mw_read.proofs.Feeding.{last_left, last_stands, last_whole, last_fault}
use Rattle.mw_answers.specs.Answering.{Answers, HasAnswered, fault_of, Taking, HasTaken, Ends, IsBegunBy, AreFirst, AreExpectedFirst}
use Rattle.mw_answers.specs.Statuses.{AreAnswers}
use Rattle.mw_answers.specs.declared.reading.Taken.TheVariants as takings
use Rattle.mw_answers.proofs.FirstData.{data_of_first, data_of_ended}

-- the book of these bytes begins with these data
abbrev IsBegunAs : List Object → List ℕ → Type 0
IsBegunAs given bytes = IsBegunBy bytes given

-- The data that the end of the book completes were answered.
pub record Finishing {A : Type 0} (objects : A → List Object) (lines : A → List ℕ) (count : A → ℕ) (answered : A → Request → List Object → Type 0) (o : A) (r : Parser) (j : A) (p : Reader) : Type 0 where
  pub reads : (g : List ℕ) (given : List Object) → Stands (objects o) r g given → (more : List Object) × Answers lines answered o given j more × Stands (objects j) p.parser g more
  pub known : HasAnswered answered j
  pub all_read : p.unread ≡ []
  pub finished : p.finished ≡ true
  pub counted : count j + work p.parser p.unread ≤ count o + work r []

module _ {A : Type 0} {lines : A → List ℕ} {answered : A → Request → List Object → Type 0} where
  pub answers_none : (j : A) (given : List Object) → Answers lines answered j given j given
  answers_none j given = record { known = λ q h. h; expected = λ q h w e. e }

  pub answers_more : (a b c : A) (x y z : List Object) → Answers lines answered a x b y → Answers lines answered b y c z → Answers lines answered a x c z
  answers_more a b c x y z f g = record {
    known = λ q h. g.known q (f.known q h);
    expected = λ q h w e. g.expected q (f.known q h) w (f.expected q h w e);
  }

  pub known_more : (a b : A) → ((given : List Object) → (more : List Object) × Answers lines answered a given b more) → HasAnswered answered a → HasAnswered answered b
  known_more a b f h = let m = f h.1 in (h.0, m.0, m.1.known h.0 h.2)

module _ {A : Type 0} {objects : A → List Object} {lines : A → List ℕ} {count : A → ℕ} {answered : A → Request → List Object → Type 0} where
  pub taking_none : (o : A) (r : Parser) (piece : List ℕ) → Follows r piece → HasAnswered answered o → Taking objects lines count answered o r piece o r 0
  taking_none o r piece f known = record {
    within = (let e : 0 ≤ length piece = omega arith in e);
    reads = λ g given s. (given, answers_none o given, subst (λ u. Stands (objects o) r u given) (sym (append-nil g)) s);
    known = known;
    follows = f;
    counted = (let e : count o + work r piece ≤ count o + work r piece = omega arith in e);
  }

  module _ {o : A} {r : Parser} {piece : List ℕ} {j : A} {p : Parser} {at : ℕ} (taking : Taking objects lines count answered o r piece j p at) where
    pub standing : IsStanding (objects o) r → IsStanding (objects j) p
    standing s = let t = taking.reads s.0 s.1 s.2 in (s.0 ++ take at piece, t.0, t.2)

    -- the lines are expected
    pub taking_expected : (g : List ℕ) (given : List Object) → Stands (objects o) r g given → AreExpectedFirst lines answered o given (AreFirst (g ++ piece)) j
    taking_expected g given h = let x = taking.reads g given h in (x.0, data_of_first (objects j) p g piece at x.0 x.2 taking.follows, x.1.expected)

    -- k has read what comes next
    module _ (k : A) (kept : (given : List Object) → Answers lines answered j given k given) (same : count k ≡ count j) (t : Step) (n : ℕ) (q : Parser) where
      pub known_read : HasAnswered answered k
      known_read = known_more j k (λ given. (given, kept given)) taking.known

      -- a datum, which is answered
      pub taking_more : IsStanding (objects o) r → (new : A) →
          ((g : List ℕ) (given : List Object) → Stands (objects j) p g given → (y : Object) × Gives (objects k) y t × GivesAfter p g given (drop at piece) y n q) →
          ((y : Object) → Gives (objects k) y t → (given : List Object) → Answers lines answered k given new (given ++ y ∷ [])) →
          count new ≡ count k + 1 → Taking objects lines count answered o r piece new q (at + n)
      taking_more s new says answers counted =
          let here = standing s in
          let d = says here.0 here.1 here.2 in
          let b = d.2 in
          let l : n ≤ length (drop at piece) = b.taken in
          record {
            within = (let e : at + n ≤ length piece = omega (arith, l, length-drop at piece, taking.within) in e);
            reads = λ g given h.
                let x = taking.reads g given h in
                let v = says (g ++ take at piece) x.0 x.2 in (
                  x.0 ++ v.0 ∷ [],
                  answers_more o k new given x.0 (x.0 ++ v.0 ∷ []) (answers_more o j k given x.0 x.0 x.1 (kept x.0)) (answers v.0 v.1 x.0),
                  subst (λ u. Stands (objects new) q u (x.0 ++ v.0 ∷ [])) (append_assoc g (take at piece) (take n (drop at piece)) ∙ ap (λ u. g ++ u) (sym (take-add at n piece))) (v.2.stands (objects new)),
                );
            known = known_more k new (λ given. (given ++ d.0 ∷ [], answers d.0 d.1 given)) known_read;
            follows = subst (Follows q) (drop-drop n at piece) b.left;
            counted = (let w : work q (drop n (drop at piece)) ≡ work q (drop (at + n) piece) = ap (work q) (drop-drop n at piece) in omega (arith, w, b.less, counted, same, taking.counted));
          }

      -- the datum is within the piece, and less is left to do
      pub taking_next : IsStanding (objects o) r →
          ((g : List ℕ) (given : List Object) → Stands (objects j) p g given → (y : Object) × Gives (objects k) y t × GivesAfter p g given (drop at piece) y n q) →
          (at + n ≤ length piece) × (work q (drop (at + n) piece) < work p (drop at piece))
      taking_next s says =
          let here = standing s in
          let b = (says here.0 here.1 here.2).2 in
          let l : n ≤ length (drop at piece) = b.taken in (
            (let e : at + n ≤ length piece = omega (arith, l, length-drop at piece, taking.within) in e),
            subst (λ u. work q u < work p (drop at piece)) (drop-drop n at piece) b.less,
          )

      -- however far the step went, these lines are expected that were expected before it
      pub taken_expected : (g : List ℕ) (given : List Object) → Stands (objects o) r g given → (l : A) → lines l ≡ lines k → AreExpectedFirst lines answered o given (AreFirst (g ++ piece)) l
      taken_expected g given h l unchanged =
          let x = taking.reads g given h in (
            x.0,
            data_of_first (objects j) p g piece at x.0 x.2 taking.follows,
            λ u a w e. subst (λ v. AreAnswers u x.0 (w ++ v)) (sym unchanged) ((kept x.0).expected u (x.1.known u a) w (x.1.expected u a w e)),
          )

      -- the rest of the piece, in which no datum ends
      pub taken_rest : IsStanding (objects o) r → at < length piece →
          ((g : List ℕ) (given : List Object) → Stands (objects j) p g given → Says (objects k) p g given (drop at piece) steps.More n q) →
          Taking objects lines count answered o r piece k q (length piece) × (work q (drop (length piece) piece) < work p (drop at piece))
      taken_rest s some says =
          let here = standing s in
          let v = says here.0 here.1 here.2 in
          let size = length-drop at piece in
          let none = length-drop (length piece) piece in (
            record {
              within = (let e : length piece ≤ length piece = omega arith in e);
              reads = λ g given h.
                  let x = taking.reads g given h in
                  let w = says (g ++ take at piece) x.0 x.2 in
                  let all = append_assoc g (take at piece) (drop at piece) ∙ ap (λ u. g ++ u) (take-append-drop at piece ∙ sym (take_all (length piece) piece (omega arith))) in
                  (x.0, answers_more o j k given x.0 x.0 x.1 (kept x.0), subst (λ u. Stands (objects k) q u x.0) all w.1);
              known = known_read;
              follows = v.2 (drop (length piece) piece);
              counted = omega (arith, weight_small q.begun, size, none, some, same, taking.counted);
            },
            omega (arith, weight_small q.begun, size, none, some),
          )

      -- up to a fault
      pub taken_fault : (kind : SyntaxKind) (offset : ℕ) →
          ((g : List ℕ) (given : List Object) → Stands (objects j) p g given → Says (objects k) p g given (drop at piece) (steps.Syntax kind offset) n q) →
          HasTaken objects lines count answered (takings.Fault kind offset) o r piece k q
      taken_fault kind offset says g given h =
          let x = taking.reads g given h in
          let v = says (g ++ take at piece) x.0 x.2 in (
            x.0,
            answers_more o j k given x.0 x.0 x.1 (kept x.0),
            λ rest. ap trees (take_cut g piece at rest) ∙ v rest,
          )

    -- what was taken of the rest of the piece was taken of the piece
    module _ (k : A) (q : Parser) where
      pub taking_both : (n : ℕ) → HasTaken objects lines count answered (takings.Bytes n) j p (drop at piece) k q → Taking objects lines count answered o r piece k q (at + n) × (work q (drop (at + n) piece) < work p (drop at piece))
      taking_both n h =
          let t = h.0 in
          let size = length-drop at piece in
          let more = drop-drop n at piece in (
            record {
              within = (let e : at + n ≤ length piece = omega (arith, t.within, size, taking.within) in e);
              reads = λ g given s.
                  let x = taking.reads g given s in
                  let y = t.reads (g ++ take at piece) x.0 x.2 in (
                    y.0,
                    answers_more o j k given x.0 y.0 x.1 y.1,
                    subst (λ u. Stands (objects k) q u y.0) (append_assoc g (take at piece) (take n (drop at piece)) ∙ ap (λ u. g ++ u) (sym (take-add at n piece))) y.2,
                  );
              known = t.known;
              follows = subst (Follows q) more t.follows;
              counted = (let w : work q (drop n (drop at piece)) ≡ work q (drop (at + n) piece) = ap (work q) more in omega (arith, w, t.counted, taking.counted));
            },
            subst (λ u. work q u < work p (drop at piece)) more h.1,
          )

      pub taking_fault : (kind : SyntaxKind) (offset : ℕ) → HasTaken objects lines count answered (takings.Fault kind offset) j p (drop at piece) k q → HasTaken objects lines count answered (takings.Fault kind offset) o r piece k q
      taking_fault kind offset h g given s =
          let x = taking.reads g given s in
          let y = h (g ++ take at piece) x.0 x.2 in
          (y.0, answers_more o j k given x.0 y.0 x.1 y.1, λ rest. ap trees (take_cut g piece at rest) ∙ y.2 rest)

      pub both_expected : ((g : List ℕ) (given : List Object) → Stands (objects j) p g given → AreExpectedFirst lines answered j given (AreFirst (g ++ drop at piece)) k) → (g : List ℕ) (given : List Object) → Stands (objects o) r g given → AreExpectedFirst lines answered o given (AreFirst (g ++ piece)) k
      both_expected expected g given s =
          let x = taking.reads g given s in
          let d = expected (g ++ take at piece) x.0 x.2 in (
            d.0,
            λ rest. subst (IsBegunAs d.0) (append_assoc (g ++ take at piece) (drop at piece) rest ∙ sym (take_cut g piece at rest) ∙ sym (append_assoc g piece rest)) (d.1 rest),
            λ u a w e. d.2 u (x.1.known u a) w (x.1.expected u a w e),
          )

  pub finishing_none : (o : A) (p : Reader) → p.unread ≡ [] → p.finished ≡ true → HasAnswered answered o → Finishing objects lines count answered o p.parser o p
  finishing_none o p e f known = record {
    reads = λ g given s. (given, answers_none o given, s);
    known = known;
    all_read = e;
    finished = f;
    counted = subst (λ u. count o + work p.parser u ≤ count o + work p.parser []) (sym e) (omega arith);
  }

  module _ {o : A} {r : Parser} {j : A} {p : Reader} (finishing : Finishing objects lines count answered o r j p) where
    pub standing_last : IsStanding (objects o) r → IsStanding (objects j) p.parser
    standing_last s = let t = finishing.reads s.0 s.1 s.2 in (s.0, t.0, t.2)

    -- k has read what comes next
    module _ (k : A) (kept : (given : List Object) → Answers lines answered j given k given) (same : count k ≡ count j) (t : Step) (q : Reader) where
      pub known_last : HasAnswered answered k
      known_last = known_more j k (λ given. (given, kept given)) finishing.known

      -- however far the step went, these lines are expected that were expected before it
      pub finishing_expected : (g : List ℕ) (given : List Object) → Stands (objects o) r g given → (l : A) → lines l ≡ lines k → AreExpectedFirst lines answered o given (IsBegunBy g) l
      finishing_expected g given h l unchanged =
          let x = finishing.reads g given h in (
            x.0,
            data_of_ended (objects j) p.parser g x.0 x.2,
            λ u a w e. subst (λ v. AreAnswers u x.0 (w ++ v)) (sym unchanged) ((kept x.0).expected u (x.1.known u a) w (x.1.expected u a w e)),
          )

      pub finishing_more : IsStanding (objects o) r → (new : A) →
          ((g : List ℕ) (given : List Object) → Stands (objects j) p.parser g given → (y : Object) × Gives (objects k) y t × GivesNext p g given y q) →
          ((y : Object) → Gives (objects k) y t → (given : List Object) → Answers lines answered k given new (given ++ y ∷ [])) →
          count new ≡ count k + 1 → Finishing objects lines count answered o r new q
      finishing_more s new says answers counted =
          let here = standing_last s in
          let d = says here.0 here.1 here.2 in
          record {
            reads = λ g given h.
                let x = finishing.reads g given h in
                let v = says g x.0 x.2 in (
                  x.0 ++ v.0 ∷ [],
                  answers_more o k new given x.0 (x.0 ++ v.0 ∷ []) (answers_more o j k given x.0 x.0 x.1 (kept x.0)) (answers v.0 v.1 x.0),
                  last_stands p g x.0 finishing.all_read v.0 q v.2 (objects new),
                );
            known = known_more k new (λ given. (given ++ d.0 ∷ [], answers d.0 d.1 given)) known_last;
            all_read = last_left p here.0 here.1 finishing.all_read d.0 q d.2;
            finished = d.2.finished ∙ finishing.finished;
            counted = omega (arith, d.2.less, counted, same, finishing.counted);
          }

      -- less is left to do
      pub finishing_next : IsStanding (objects o) r →
          ((g : List ℕ) (given : List Object) → Stands (objects j) p.parser g given → (y : Object) × Gives (objects k) y t × GivesNext p g given y q) →
          work q.parser q.unread < work p.parser p.unread
      finishing_next s says = let here = standing_last s in (says here.0 here.1 here.2).2.less

      pub finished_whole : ((g : List ℕ) (given : List Object) → Stands (objects j) p.parser g given → Continues (objects k) p g given steps.End q) →
          (g : List ℕ) (given : List Object) → Stands (objects o) r g given → Ends lines answered None o g given k
      finished_whole says g given h =
          let x = finishing.reads g given h in
          (x.0, answers_more o j k given x.0 x.0 x.1 (kept x.0), last_whole p g x.0 finishing.all_read None (says g x.0 x.2).4)

      pub finished_fault : (kind : SyntaxKind) (offset : ℕ) →
          ((g : List ℕ) (given : List Object) → Stands (objects j) p.parser g given → Continues (objects k) p g given (steps.Syntax kind offset) q) →
          (g : List ℕ) (given : List Object) → Stands (objects o) r g given → Ends lines answered (Some (kind, offset)) o g given k
      finished_fault kind offset says g given h =
          let x = finishing.reads g given h in (
            x.0,
            answers_more o j k given x.0 x.0 x.1 (kept x.0),
            last_fault p g x.0 finishing.all_read (fault_of (Some (kind, offset))) (says g x.0 x.2),
          )

-- ---- one step, from the beginning of a piece

module _ {A : Type 0} (objects : A → List Object) (lines : A → List ℕ) (count : A → ℕ) (answered : A → Request → List Object → Type 0) (o : A) (r : Parser) (piece : List ℕ) (follows : Follows r piece) (known : HasAnswered answered o) (k : A) (kept : (given : List Object) → Answers lines answered o given k given) (same : count k ≡ count o) (t : Step) (n : ℕ) (q : Parser) where
  pub datum_taken : IsStanding (objects o) r → (new : A) →
      ((g : List ℕ) (given : List Object) → Stands (objects o) r g given → (y : Object) × Gives (objects k) y t × GivesAfter r g given piece y n q) →
      ((y : Object) → Gives (objects k) y t → (given : List Object) → Answers lines answered k given new (given ++ y ∷ [])) →
      count new ≡ count k + 1 → HasTaken objects lines count answered (takings.Bytes n) o r piece new q
  datum_taken s new says answers counted =
      let none : Taking objects lines count answered o r piece o r 0 = taking_none o r piece follows known in
      let e : 0 + n ≡ n = omega arith in (
        subst (λ m. Taking objects lines count answered o r piece new q m) e (taking_more none k kept same t n q s new says answers counted),
        subst (λ m. work q (drop m piece) < work r piece) e (taking_next none k kept same t n q s says).1,
      )

  pub rest_taken : IsStanding (objects o) r → 0 < length piece →
      ((g : List ℕ) (given : List Object) → Stands (objects o) r g given → Says (objects k) r g given piece steps.More n q) →
      HasTaken objects lines count answered (takings.Bytes (length piece)) o r piece k q
  rest_taken s some says =
      let none : Taking objects lines count answered o r piece o r 0 = taking_none o r piece follows known in
      taken_rest none k kept same t n q s some says

  pub fault_taken : (kind : SyntaxKind) (offset : ℕ) →
      ((g : List ℕ) (given : List Object) → Stands (objects o) r g given → Says (objects k) r g given piece (steps.Syntax kind offset) n q) →
      HasTaken objects lines count answered (takings.Fault kind offset) o r piece k q
  fault_taken kind offset says =
      let none : Taking objects lines count answered o r piece o r 0 = taking_none o r piece follows known in
      taken_fault none k kept same t n q kind offset says

  pub known_taken : HasAnswered answered k
  known_taken = known_more o k (λ given. (given, kept given)) known

  pub datum_expected : (g : List ℕ) (given : List Object) → Stands (objects o) r g given → (l : A) → lines l ≡ lines k → AreExpectedFirst lines answered o given (AreFirst (g ++ piece)) l
  datum_expected =
      let none : Taking objects lines count answered o r piece o r 0 = taking_none o r piece follows known in
      taken_expected none k kept same t n q
