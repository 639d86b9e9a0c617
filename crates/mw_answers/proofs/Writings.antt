-- What was answered and written of a piece.
use Rattle.std.proofs.Common.{◌≡◌, ℕ, ◌+◌, ◌<◌, ◌≤◌, ◌⊎◌, List, [], ◌++◌, length, take, drop, Option, Some, None, inl, inr, sym, ap, ◌∙◌, subst, arith, append_assoc, append-nil}
use Rattle.std.proofs.lemmas.List.{drop-drop, length-drop}
use Rattle.std.proofs.Math.Seq.{take-add}
use Rattle.mw_model.specs.Terms.Object.{Object}
use Rattle.mw_model.specs.Texts.Grammar.{trees}
use Rattle.mw_model.specs.Reports.Request.{Request}
use Rattle.mw_port.specs.Ports.{Rises, Takes}
use Rattle.mw_read.specs.Standing.{Stands, IsStanding, Follows, work}
use Rattle.mw_read.specs.declared.parser.Parser.{Parser}
use Rattle.mw_read.specs.declared.step.SyntaxKind.{SyntaxKind}
use Rattle.mw_read.proofs.Bare.{take_cut}
use Rattle.mw_answers.specs.Answering.{Answers, HasAnswered, HasTaken, Ends, AreFirst, AreExpectedFirst}
use Rattle.mw_answers.specs.Statuses.{TakesSome, AreAnswers}
use Rattle.mw_answers.specs.Checks.{SinkShortages}
use Rattle.mw_answers.specs.Writing.{GoesOn, Writes, Writing, HasWritten, EndsWritten, StopsWritten}
use Rattle.mw_answers.specs.declared.reading.Taken.TheVariants as takings
use Rattle.mw_answers.specs.declared.status.Status.{Status as Ending}
use Rattle.mw_answers.specs.declared.status.Status.TheVariants as ending
use Rattle.mw_answers.proofs.Written.{takes_none, takes_both, takes_then}

or_both : {R P Q : Type 0} → (P → Q) → R ⊎ P → R ⊎ Q
or_both f (inl r) = inl r
or_both f (inr p) = inr (f p)

-- a shortage was counted, where memory stopped a write
pub short_at : (e : Ending) (m n : ℕ) → SinkShortages e m n → e ≡ ending.Memory → Rises m n
short_at e m n h i = subst (λ s. SinkShortages s m n) i h

module _ {A : Type 0} (lines : A → List ℕ) (answered : A → Request → List Object → Type 0) where
  -- with no lines left before, the lines that are expected now are the text that is expected
  lines_expected : (a b : A) (given more : List Object) → lines a ≡ [] → ((q : Request) → answered a q given → (written : List ℕ) → AreAnswers q given (written ++ lines a) → AreAnswers q more (written ++ lines b)) → GoesOn answered a given more (lines b)
  lines_expected a b given more none expected q h w e = expected q h w (subst (AreAnswers q given) (sym (ap (λ u. w ++ u) none ∙ append-nil w)) e)

  -- more data were answered, and the lines written
  pub writes_more : (o j k l : A) (given mid more : List Object) (text : List ℕ) → Writes answered o given j mid text → lines j ≡ [] → Answers lines answered j mid k more → ((q : Request) (xs : List Object) → answered k q xs → answered l q xs) → Writes answered o given l more (text ++ lines k)
  writes_more o j k l given mid more text w none a same = record {
    known = λ q h. same q more (a.known q (w.known q h));
    expected = λ q h written e. subst (AreAnswers q more) (append_assoc written text (lines k)) (lines_expected j k mid more none a.expected q (w.known q h) (written ++ text) (w.expected q h written e));
  }

  -- writing, or answering, stopped where first data of the book were answered
  pub stops_more : (e : Ending) (o j k : A) (given mid : List Object) (text : List ℕ) (First Here : List Object → Type 0) (before between after : Option (List ℕ)) (m n : ℕ) →
      Writes answered o given j mid text → lines j ≡ [] → AreExpectedFirst lines answered j mid Here k → ((more : List Object) → Here more → First more) → Takes before between text → TakesSome between after (lines k) → (e ≡ ending.Memory → Rises m n ⊎ Takes between after (lines k)) → StopsWritten answered e o given First before after m n
  stops_more e o j k given mid text First Here before between after m n w none d first takes some all = (
    d.0,
    first d.0 d.1,
    text ++ lines k,
    λ q h written a. subst (AreAnswers q d.0) (append_assoc written text (lines k)) (lines_expected j k mid d.0 none d.2 q (w.known q h) (written ++ text) (w.expected q h written a)),
    takes_then before between after text (lines k) takes some,
    λ i. or_both (takes_both before between after text (lines k) takes) (all i),
  )

pub writes_none : {A : Type 0} (answered : A → Request → List Object → Type 0) (o : A) (given : List Object) → Writes answered o given o given []
writes_none answered o given = record { known = λ q h. h; expected = λ q h w e. subst (AreAnswers q given) (sym (append-nil w)) e }

module _ {A : Type 0} {objects : A → List Object} {lines : A → List ℕ} {count : A → ℕ} {answered : A → Request → List Object → Type 0} where
  pub writing_none : (o : A) (r : Parser) (piece : List ℕ) (sink : Option (List ℕ)) → Follows r piece → HasAnswered answered o → lines o ≡ [] → Writing objects lines count answered o r piece sink o r 0 sink
  writing_none o r piece sink f known none = record {
    within = (let e : 0 ≤ length piece = omega arith in e);
    reads = λ g given s. (given, [], takes_none sink, writes_none answered o given, subst (λ u. Stands (objects o) r u given) (sym (append-nil g)) s);
    known = known;
    follows = f;
    counted = (let e : count o + work r piece ≤ count o + work r piece = omega arith in e);
    none_left = none;
  }

  module _ {o : A} {r : Parser} {piece : List ℕ} {before : Option (List ℕ)} {j : A} {p : Parser} {at : ℕ} {sink : Option (List ℕ)} (writing : Writing objects lines count answered o r piece before j p at sink) where
    pub standing_after : IsStanding (objects o) r → IsStanding (objects j) p
    standing_after s = let t = writing.reads s.0 s.1 s.2 in (s.0 ++ take at piece, t.0, t.4)

    -- k has taken more of the piece, and its lines were written: l has none
    module _ (k l : A) (q : Parser) (after : Option (List ℕ)) (takes : Takes sink after (lines k)) (same_objects : objects l ≡ objects k) (same_count : count l ≡ count k) (same_known : (u : Request) (xs : List Object) → answered k u xs → answered l u xs) (none : lines l ≡ []) where
      pub writing_more : (n : ℕ) → HasTaken objects lines count answered (takings.Bytes n) j p (drop at piece) k q →
          Writing objects lines count answered o r piece before l q (at + n) after × (work q (drop (at + n) piece) < work p (drop at piece))
      writing_more n h =
          let t = h.0 in
          let size = length-drop at piece in
          let more = drop-drop n at piece in (
            record {
              within = (let e : at + n ≤ length piece = omega (arith, t.within, size, writing.within) in e);
              reads = λ g given s.
                  let x = writing.reads g given s in
                  let y = t.reads (g ++ take at piece) x.0 x.4 in (
                    y.0,
                    x.1 ++ lines k,
                    takes_both before sink after x.1 (lines k) x.2 takes,
                    writes_more lines answered o j k l given x.0 y.0 x.1 x.3 writing.none_left y.1 same_known,
                    subst (λ os. Stands os q (g ++ take (at + n) piece) y.0) (sym same_objects)
                        (subst (λ u. Stands (objects k) q u y.0) (append_assoc g (take at piece) (take n (drop at piece)) ∙ ap (λ u. g ++ u) (sym (take-add at n piece))) y.2),
                  );
              known = (t.known.0, t.known.1, same_known t.known.0 t.known.1 t.known.2);
              follows = subst (Follows q) more t.follows;
              counted = (let w : work q (drop n (drop at piece)) ≡ work q (drop (at + n) piece) = ap (work q) more in omega (arith, w, same_count, t.counted, writing.counted));
              none_left = none;
            },
            subst (λ u. work q u < work p (drop at piece)) more h.1,
          )

      pub written_fault : (kind : SyntaxKind) (offset : ℕ) → HasTaken objects lines count answered (takings.Fault kind offset) j p (drop at piece) k q → HasWritten objects lines count answered (Some (kind, offset)) o r piece before l q after
      written_fault kind offset h = (
        none,
        λ g given s.
            let x = writing.reads g given s in
            let y = h (g ++ take at piece) x.0 x.4 in
            (y.0, x.1 ++ lines k, takes_both before sink after x.1 (lines k) x.2 takes, writes_more lines answered o j k l given x.0 y.0 x.1 x.3 writing.none_left y.1 same_known, λ rest. ap trees (take_cut g piece at rest) ∙ y.2 rest),
      )

    -- the whole piece
    pub written_whole : length piece ≤ at → HasWritten objects lines count answered None o r piece before j p sink
    written_whole l = let e : at ≡ length piece = omega (arith, l, writing.within) in subst (λ n. Writing objects lines count answered o r piece before j p n sink) e writing

    -- writing, or answering, stopped
    pub writing_stops : (s : Ending) (k : A) (after : Option (List ℕ)) (m n : ℕ) → ((g : List ℕ) (given : List Object) → Stands (objects j) p g given → AreExpectedFirst lines answered j given (AreFirst (g ++ drop at piece)) k) →
        TakesSome sink after (lines k) → (s ≡ ending.Memory → Rises m n ⊎ Takes sink after (lines k)) →
        (g : List ℕ) (given : List Object) → Stands (objects o) r g given → StopsWritten answered s o given (AreFirst (g ++ piece)) before after m n
    writing_stops s k after m n expected some all g given h =
        let x = writing.reads g given h in
        stops_more lines answered s o j k given x.0 x.1 (AreFirst (g ++ piece)) (AreFirst ((g ++ take at piece) ++ drop at piece)) before sink after m n x.3 writing.none_left (expected (g ++ take at piece) x.0 x.4)
        (λ more f rest. subst (λ u. (others : List Object) × ((trees u).events ≡ more ++ others)) (append_assoc (g ++ take at piece) (drop at piece) rest ∙ sym (take_cut g piece at rest) ∙ sym (append_assoc g piece rest)) (f rest))
        x.2 some all

-- the end of the book was answered, and the lines written
pub ends_written : {A : Type 0} {lines : A → List ℕ} {answered : A → Request → List Object → Type 0} (o k l : A) (g : List ℕ) (given : List Object) (f : Option (SyntaxKind × ℕ)) (before after : Option (List ℕ)) → lines o ≡ [] → Takes before after (lines k) → ((q : Request) (xs : List Object) → answered k q xs → answered l q xs) → Ends lines answered f o g given k → EndsWritten answered f o g given before l after
ends_written {A} {lines} {answered} o k l g given f before after none t same h =
    (h.0, lines k, t, writes_more lines answered o o k l given given h.0 [] (writes_none answered o given) none h.1 same, h.2)

-- or writing, or answering, stopped there
pub end_stops : {A : Type 0} (lines : A → List ℕ) (answered : A → Request → List Object → Type 0) (e : Ending) (o k : A) (given : List Object) (First : List Object → Type 0) (before after : Option (List ℕ)) (m n : ℕ) → lines o ≡ [] → AreExpectedFirst lines answered o given First k → TakesSome before after (lines k) → (e ≡ ending.Memory → Rises m n ⊎ Takes before after (lines k)) → StopsWritten answered e o given First before after m n
end_stops lines answered e o k given First before after m n none d some all = stops_more lines answered e o o k given given [] First First before before after m n (writes_none answered o given) none d (λ more f. f) (takes_none before) some all
