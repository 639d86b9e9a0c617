-- What is known between two pieces of a book.
use Rattle.std.proofs.Common.{◌≡◌, ℕ, ◌+◌, ◌*◌, ◌<◌, ◌≤◌, ◌^◌, ◌⊎◌, true, false, List, [], ◌++◌, length, drop, Option, Some, None, inl, inr, refl, sym, ap, ◌∙◌, subst, arith, true≢false, append_assoc, length-append}
use Rattle.std.proofs.lemmas.List.{drop_all, take_all}
use Rattle.std.specs.Option.{is_some}
use Rattle.mw_model.specs.Terms.Object.{Object}
use Rattle.mw_model.specs.Reports.Request.{Request, Check, Trial, Taut, Lower, Slice, Flat, Recheck, Explain, Help, Usage}
use Rattle.mw_model.specs.Texts.Lexemes.{Goes}
use Rattle.mw_model.specs.Texts.Grammar.{Book, book, reading, trees}
use Rattle.mw_model.specs.Reports.Report.{Status}
use Rattle.mw_commands.specs.Headlines.{Promised, IsBegun}
use Rattle.mw_port.specs.Ports.{Gives, Rises, Takes as SinkTakes, HasEnded}
use Rattle.mw_read.specs.Standing.{Stands, IsStanding, IsFree, Follows, work}
use Rattle.mw_read.specs.declared.parser.Parser.{Parser}
use Rattle.mw_read.specs.declared.step.SyntaxKind.{SyntaxKind}
use Rattle.mw_read.proofs.Beginning.{weight_small}
use Rattle.mw_read.proofs.Telling.{stands_goes}
use Rattle.mw_answers.specs.Answering.{HasAnswered, IsBegunBy, AreFirst, ReadWhole}
use Rattle.mw_answers.specs.Writing.{HasWritten, EndsWritten, StopsWritten}
use Rattle.mw_answers.specs.Statuses.{Has, TakesSome, AreAnswers, report_status, IsPartOf, WritesFirst}
use Rattle.mw_answers.specs.Checks.{BookEnds, SourceCounts, SinkShortages, ConcludesWith, IsHalt, IsStop}
use Rattle.mw_answers.specs.declared.status.Status.{Status as Ending}
use Rattle.mw_answers.specs.declared.status.Status.TheVariants as ending
use Rattle.mw_read.proofs.Prefixes.{free_fits, first_data}
use Rattle.mw_answers.proofs.FirstData.{follows_free, read_so_far}
use Rattle.mw_answers.proofs.Written.{takes_none, takes_both, takes_then, gives_none, gives_both, left_of, gives_has, ended_has, still_ended}

-- that what was answered first begins a text that keeps the promise
abbrev pub Begins : Type 0
Begins = (q : Request) (bytes text : List ℕ) (given more : List Object) → (trees bytes).events ≡ given ++ more → AreAnswers q given text → IsBegun q bytes text

-- a prefix of what begins such a text begins it too
pub begun_part : (q : Request) (bytes text : List ℕ) (old new : Option (List ℕ)) → IsBegun q bytes text → TakesSome old new text → (written : List ℕ) × SinkTakes old new written × IsBegun q bytes written
begun_part q bytes text old new b t = (
  t.0,
  t.3,
  (t.1 ++ b.0, b.1, subst (λ u. Promised q bytes u b.1) (ap (λ u. u ++ b.0) t.2 ∙ append_assoc t.0 t.1 b.0) b.2),
)

-- what begins such a text is part of what is expected, where the request asks for answers
pub begun_is_part : (q : Request) (given : List Object) (text : List ℕ) → AreAnswers q given text → (input old new : Option (List ℕ)) → (bytes : List ℕ) × Has input bytes × (written : List ℕ) × SinkTakes old new written × IsBegun q bytes written → IsPartOf q input old new
begun_is_part (Check N) given text a input old new b = b
begun_is_part Taut given text a input old new b = b
begun_is_part (Trial m N) given text a input old new b = absurd a
begun_is_part (Lower N) given text a input old new b = b
begun_is_part (Slice s N) given text a input old new b = b
begun_is_part (Flat N) given text a input old new b = b
begun_is_part Recheck given text a input old new b = b
begun_is_part (Explain N) given text a input old new b = b
begun_is_part Help given text a input old new b = absurd a
begun_is_part Usage given text a input old new b = absurd a

-- answers to first data of the book that the source holds, where the request asks for answers
pub first_written : (q : Request) (given : List Object) (text : List ℕ) → AreAnswers q given text → (input old new : Option (List ℕ)) →
    (bytes : List ℕ) × Has input bytes × (first more : List Object) × ((trees bytes).events ≡ first ++ more) × (written : List ℕ) × SinkTakes old new written × AreAnswers q first written →
    WritesFirst q input old new
first_written (Check N) given text a input old new b = b
first_written Taut given text a input old new b = b
first_written (Trial m N) given text a input old new b = absurd a
first_written (Lower N) given text a input old new b = b
first_written (Slice s N) given text a input old new b = b
first_written (Flat N) given text a input old new b = b
first_written Recheck given text a input old new b = b
first_written (Explain N) given text a input old new b = b
first_written Help given text a input old new b = absurd a
first_written Usage given text a input old new b = absurd a

-- nothing was written
pub part_none : Begins → (q : Request) → AreAnswers q [] [] → (input sink : Option (List ℕ)) → IsPartOf q input sink sink
part_none begins q a input sink =
    begun_is_part q [] [] a input sink sink (left_of input, gives_has input input [] (gives_none input), [], takes_none sink, begins q (left_of input) [] [] (trees (left_of input)).events refl a)

pub first_none : (q : Request) → AreAnswers q [] [] → (input sink : Option (List ℕ)) → WritesFirst q input sink sink
first_none q a input sink =
    first_written q [] [] a input sink sink (left_of input, gives_has input input [] (gives_none input), [], (trees (left_of input)).events, refl, [], takes_none sink, a)

pub ends_none : Begins → (q : Request) → AreAnswers q [] [] → (input now sink : Option (List ℕ)) (m n : ℕ) → BookEnds ending.Memory q input now sink sink m n
ends_none begins q a input now sink m n = (part_none begins q a input sink, inr (first_none q a input sink))

-- Of the book, these bytes were read, all their data answered, and all answers written.
pub record Between {A : Type 0} (objects : A → List Object) (lines : A → List ℕ) (number : A → ℕ) (answered : A → Request → List Object → Type 0) (q : Request) (input first : Option (List ℕ)) (j : A) (p : Parser) (left sink : Option (List ℕ)) (count : ℕ) : Type 0 where
  pub bytes : List ℕ
  pub given : List Object
  pub gives : Gives input left bytes
  pub stands : Stands (objects j) p bytes given
  pub free : IsFree p
  pub so_far : reading Goes bytes ≡ book given None
  pub known : answered j q given
  pub written : List ℕ
  pub takes : SinkTakes first sink written
  pub answers : AreAnswers q given written
  pub none_left : lines j ≡ []
  pub many : count ≤ length bytes
  pub amount : number j ≤ 3 * length bytes

module _ {A : Type 0} {objects : A → List Object} {lines : A → List ℕ} {number : A → ℕ} {answered : A → Request → List Object → Type 0} {q : Request} {input first : Option (List ℕ)} where
  pub between_none : (j : A) (p : Parser) → answered j q [] → AreAnswers q [] [] → lines j ≡ [] → number j ≡ 0 → ((os : List Object) → Stands os p [] []) → IsFree p → Between objects lines number answered q input first j p input first 0
  between_none j p h a l n s f = record {
    bytes = [];
    given = [];
    gives = gives_none input;
    stands = s (objects j);
    free = f;
    so_far = stands_goes (objects j) p [] [] (s (objects j)) (free_fits p f);
    known = h;
    written = [];
    takes = takes_none first;
    answers = a;
    none_left = l;
    many = (let e : 0 ≤ 0 = omega arith in e);
    amount = (let e : number j ≤ 3 * 0 = omega (arith, n) in e);
  }

  module _ {j : A} {p : Parser} {left sink : Option (List ℕ)} {count : ℕ} (between : Between objects lines number answered q input first j p left sink count) where
    pub here : IsStanding (objects j) p
    here = (between.bytes, between.given, between.stands)

    pub known_here : HasAnswered answered j
    known_here = (q, between.given, between.known)

    pub count_short : count ≤ 2 ^ 40
    count_short = omega (arith, between.many, between.stands.short)

    pub room_for : (piece : List ℕ) → length piece ≤ 4096 → number j + work p piece < 2 ^ 62
    room_for piece l = omega (arith, between.amount, between.stands.short, weight_small p.begun, l)

    -- what was written begins a text that is expected, whatever bytes follow
    begun_here : Begins → IsPartOf q input first sink
    begun_here begins =
        let bytes = between.bytes ++ left_of left in
        let d = first_data (objects j) p between.bytes between.given between.stands (left_of left) (between.free (left_of left)) in
        begun_is_part q between.given between.written between.answers input first sink (
          bytes,
          gives_has input left between.bytes between.gives,
          between.written,
          between.takes,
          begins q bytes between.written between.given d.0 d.1 between.answers,
        )

    -- a read failed
    pub read_fails : Begins → (now : Option (List ℕ)) → now ≡ left → (m n : ℕ) → BookEnds ending.ReadFault q input now first sink m n
    read_fails begins now e m n = (
      (
        between.bytes,
        subst (λ u. Gives input u between.bytes) (sym e) between.gives,
        ap (λ (b : Book). b.fault) between.so_far,
        between.written,
        between.takes,
        subst (λ (b : Book). AreAnswers q b.events between.written) (sym between.so_far) between.answers,
      ),
      begun_here begins,
    )

    -- A write stopped, or memory ran out: the answers to first data begin a text that is expected, and are whole where memory ran out.
    module _ (begins : Begins) (bytes : List ℕ) (has : Has input bytes) (First : List Object → Type 0) (first_of : (more : List Object) → First more → IsBegunBy bytes more) (s : Ending) (after : Option (List ℕ)) (m n : ℕ) (stops : StopsWritten answered s j between.given First sink after m n) (now : Option (List ℕ)) where
      owed : AreAnswers q stops.0 (between.written ++ stops.2)
      owed = stops.3 q between.known between.written between.answers

      part : IsPartOf q input first after
      part =
          let d = first_of stops.0 stops.1 in
          let p = begun_part q bytes (between.written ++ stops.2) first after (begins q bytes (between.written ++ stops.2) stops.0 d.0 d.1 owed) (takes_then first sink after between.written stops.2 between.takes stops.4) in
          begun_is_part q stops.0 (between.written ++ stops.2) owed input first after (bytes, has, p.0, p.1, p.2)

      whole : SinkTakes sink after stops.2 → WritesFirst q input first after
      whole t =
          let d = first_of stops.0 stops.1 in
          first_written q stops.0 (between.written ++ stops.2) owed input first after (bytes, has, stops.0, d.0, d.1, between.written ++ stops.2, takes_both first sink after between.written stops.2 between.takes t, owed)

      whole_or : Rises m n ⊎ SinkTakes sink after stops.2 → Rises m n ⊎ WritesFirst q input first after
      whole_or (inl r) = inl r
      whole_or (inr t) = inr (whole t)

      ends_so : (e : Ending) → s ≡ e → IsHalt e → BookEnds e q input now first after m n
      ends_so ending.WriteFault i h = part
      ends_so ending.Memory i h = (part, whole_or (stops.5 i))
      ends_so ending.Done i h = absurd h
      ends_so ending.SomeRefused i h = absurd h
      ends_so ending.Help i h = absurd h
      ends_so ending.Usage i h = absurd h
      ends_so (ending.Syntax k o) i h = absurd h
      ends_so ending.ReadFault i h = absurd h

      stopped : IsHalt s → BookEnds s q input now first after m n
      stopped h = ends_so s refl h

    -- the book has ended
    module _ (now : Option (List ℕ)) (gives : Gives left now []) (ended : HasEnded left) where
      all_read : Has input between.bytes
      all_read = ended_has input left between.bytes between.gives ended

      pub whole_end : (f : Option (SyntaxKind × ℕ)) (new : A) (after : Option (List ℕ)) → EndsWritten answered f j between.bytes between.given sink new after → ReadWhole answered q input now first after f new
      whole_end f new after h = record {
        bytes = between.bytes;
        has = all_read;
        ended = λ e. still_ended left now gives ended;
        given = h.0;
        read = h.4;
        known = h.3.known q between.known;
        written = between.written ++ h.1;
        takes = takes_both first sink after between.written h.1 between.takes h.2;
        expected = h.3.expected q between.known between.written between.answers;
      }

      pub end_stops : Begins → (s : Ending) → IsHalt s → (after : Option (List ℕ)) (m n : ℕ) → ((g : List ℕ) (given : List Object) → Stands (objects j) p g given → StopsWritten answered s j given (IsBegunBy g) sink after m n) → BookEnds s q input now first after m n
      end_stops begins s h after m n stops = stopped begins between.bytes all_read (IsBegunBy between.bytes) (λ more f. f) s after m n (stops between.bytes between.given between.stands) now h

    -- a piece was read
    module _ (piece : List ℕ) (now : Option (List ℕ)) (gives : Gives left now piece) where
      all_given : Gives input now (between.bytes ++ piece)
      all_given = gives_both input left now between.bytes piece between.gives gives

      all_had : Has input ((between.bytes ++ piece) ++ left_of now)
      all_had = gives_has input now (between.bytes ++ piece) all_given

      pub piece_stops : Begins → (s : Ending) → IsHalt s → (after : Option (List ℕ)) (m n : ℕ) → ((g : List ℕ) (given : List Object) → Stands (objects j) p g given → StopsWritten answered s j given (AreFirst (g ++ piece)) sink after m n) → BookEnds s q input now first after m n
      piece_stops begins s h after m n stops = stopped begins ((between.bytes ++ piece) ++ left_of now) all_had (AreFirst (between.bytes ++ piece)) (λ more f. f (left_of now)) s after m n (stops between.bytes between.given between.stands) now h

      module _ (new : A) (r : Parser) (after : Option (List ℕ)) where
        -- up to a fault
        pub whole_fault : (f : Option (SyntaxKind × ℕ)) → is_some f ≡ true → HasWritten objects lines number answered f j p piece sink new r after → ReadWhole answered q input now first after f new
        whole_fault None e h = absurd (true≢false (sym e))
        whole_fault (Some f) e h =
            let x = h.1 between.bytes between.given between.stands in
            record {
              bytes = between.bytes ++ (piece ++ left_of now);
              has = subst (Has input) (append_assoc between.bytes piece (left_of now)) all_had;
              ended = λ n. absurd (some_is_not_none f n);
              given = x.0;
              read = x.4 (left_of now);
              known = x.3.known q between.known;
              written = between.written ++ x.1;
              takes = takes_both first sink after between.written x.1 between.takes x.2;
              expected = x.3.expected q between.known between.written between.answers;
            }
          where
            some_is_not_none : (x : SyntaxKind × ℕ) → Some x ≡ None → ⊥
            some_is_not_none x e = true≢false (ap is_some e)

        pub fault_none_left : (f : Option (SyntaxKind × ℕ)) → HasWritten objects lines number answered f j p piece sink new r after → lines new ≡ []
        fault_none_left None h = h.none_left
        fault_none_left (Some f) h = h.0

        -- all of it
        pub between_more : 0 < length piece → (f : Option (SyntaxKind × ℕ)) → is_some f ≡ false → HasWritten objects lines number answered f j p piece sink new r after → Between objects lines number answered q input first new r now after (count + 1)
        between_more some (Some f) e h = absurd (true≢false e)
        between_more some None e h =
            let x = h.reads between.bytes between.given between.stands in
            let size = length-append between.bytes piece in
            let none : drop (length piece) piece ≡ [] = drop_all (length piece) piece (omega arith) in
            let stands = subst (λ u. Stands (objects new) r (between.bytes ++ u) x.0) (take_all (length piece) piece (omega arith)) x.4 in
            let free = follows_free r (subst (Follows r) none h.follows) in
            record {
              bytes = between.bytes ++ piece;
              given = x.0;
              gives = all_given;
              stands = stands;
              free = free;
              so_far = read_so_far (objects new) r (between.bytes ++ piece) x.0 stands free;
              known = x.3.known q between.known;
              written = between.written ++ x.1;
              takes = takes_both first sink after between.written x.1 between.takes x.2;
              answers = x.3.expected q between.known between.written between.answers;
              none_left = h.none_left;
              many = (let m : count + 1 ≤ length (between.bytes ++ piece) = omega (arith, size, some, between.many) in m);
              amount = (let m : number new ≤ 3 * length (between.bytes ++ piece) = omega (arith, size, some, h.counted, weight_small p.begun, between.amount) in m);
            }

pub halt_reads : (s : Ending) (old new : ℕ) → IsHalt s → new ≡ old → SourceCounts s old new
halt_reads ending.WriteFault old new h e = e
halt_reads ending.Memory old new h e = e
halt_reads ending.Done old new h e = absurd h
halt_reads ending.SomeRefused old new h e = absurd h
halt_reads ending.Help old new h e = absurd h
halt_reads ending.Usage old new h e = absurd h
halt_reads (ending.Syntax k o) old new h e = absurd h
halt_reads ending.ReadFault old new h e = absurd h

pub halt_stops : (s : Ending) → IsHalt s → IsStop s
halt_stops ending.WriteFault h = h
halt_stops ending.Memory h = h
halt_stops ending.Done h = absurd h
halt_stops ending.SomeRefused h = absurd h
halt_stops ending.Help h = absurd h
halt_stops ending.Usage h = absurd h
halt_stops (ending.Syntax k o) h = absurd h
halt_stops ending.ReadFault h = absurd h

-- a write that stopped took a prefix
pub concludes_with_halt : (e : Ending) (s : Status) (IsLast : List ℕ → Type 0) (old new : Option (List ℕ)) (m n : ℕ) → IsHalt e → SinkShortages e m n → (last : List ℕ) → IsLast last → TakesSome old new last → ConcludesWith e s IsLast old new m n
concludes_with_halt ending.WriteFault s IsLast old new m n h k last l t = (last, l, t)
concludes_with_halt ending.Memory s IsLast old new m n h k last l t = inr (k, last, l, t)
concludes_with_halt ending.Done s IsLast old new m n h k last l t = absurd h
concludes_with_halt ending.SomeRefused s IsLast old new m n h k last l t = absurd h
concludes_with_halt ending.Help s IsLast old new m n h k last l t = absurd h
concludes_with_halt ending.Usage s IsLast old new m n h k last l t = absurd h
concludes_with_halt (ending.Syntax x o) s IsLast old new m n h k last l t = absurd h
concludes_with_halt ending.ReadFault s IsLast old new m n h k last l t = absurd h

-- a whole text was taken
pub concludes_with_all : (e : Ending) (s : Status) (IsLast : List ℕ → Type 0) (old new : Option (List ℕ)) (m n : ℕ) → report_status e ≡ Some s → (last : List ℕ) → IsLast last → SinkTakes old new last → ConcludesWith e s IsLast old new m n
concludes_with_all ending.Done s IsLast old new m n e last l t = (last, l, (e, t))
concludes_with_all ending.SomeRefused s IsLast old new m n e last l t = (last, l, (e, t))
concludes_with_all (ending.Syntax k o) s IsLast old new m n e last l t = (last, l, (e, t))
concludes_with_all ending.WriteFault s IsLast old new m n e last l t = absurd (let h : None ≡ Some s = e in cc)
concludes_with_all ending.Memory s IsLast old new m n e last l t = absurd (let h : None ≡ Some s = e in cc)
concludes_with_all ending.Help s IsLast old new m n e last l t = absurd (let h : None ≡ Some s = e in cc)
concludes_with_all ending.Usage s IsLast old new m n e last l t = absurd (let h : None ≡ Some s = e in cc)
concludes_with_all ending.ReadFault s IsLast old new m n e last l t = absurd (let h : None ≡ Some s = e in cc)
