use Rattle.std.proofs.Common.{◌≡◌, ◌∙◌, ◌≤◌, [], ◌∷◌, ◌++◌, None, Some, length, ap, sym, subst, vec_len, append-nil, arith, List}
use Rattle.mw_model.specs.Terms.Object.{Object}
use Rattle.mw_model.specs.Texts.Lexemes.{Ends, fault, END}
use Rattle.mw_model.specs.Texts.Grammar.{book, limit}
use Rattle.mw_read.specs.Piles.{fault_of}
use Rattle.mw_read.specs.Parsing.{offset_of}
use Rattle.mw_read.specs.Standing.{Lasts, Finishes, Stands}
use Rattle.mw_read.proofs.Bare.{empty_is, not_empty}
use Rattle.mw_read.proofs.Emptied.{none_open, some_open, gives}
use Rattle.mw_read.proofs.Telling.{stands_ends, over_meaning, fits_end, fits_inside, given_stands, finishes_of, ended_stands, unended, uncut}
use Rattle.mw_read.proofs.parser.Parser.read_end.Goals as goal

pub returns-then-is_empty-clause-finishes : goal.returns-then-is_empty-clause-finishes
returns-then-is_empty-clause-finishes c g given s =
    let a = c.args.self.now in
    let p = c.last.new.self in
    let os = c.last.new.heap.objects in
    let q = subst (λ r. Lasts os s.state a r p) c.in-Pending.is (c.in-Ok.ensures.lasts s.state s.holds) in (
      ended_stands c.args.heap.now.objects os a p g given s q,
      stands_ends c.args.heap.now.objects a g given s None
          (q.0.3 Ends [] (fits_end p.begun)
          ∙ over_meaning q.0.0 p.begun p.token.items p.start q.1
          ∙ ap (book []) (none_open os p.stack q.0.0 (offset_of p) q.0.1 (empty_is p.stack.layers.items (vec_len p.stack.layers) p.stack.layers.ok.0 c.if-is_empty.ensures))),
    )

pub returns-in-Datum-clause-finishes : goal.returns-in-Datum-clause-finishes
returns-in-Datum-clause-finishes c g given s =
    let a = c.args.self.now in
    let p = c.last.new.self in
    let os = c.last.new.heap.objects in
    let x = c.in-Datum.x in
    let q = subst (λ r. Lasts os s.state a r p) c.in-Datum.is (c.in-Ok.ensures.lasts s.state s.holds) in
    let nil = append-nil g in
    let o : offset_of p ≡ length (g ++ []) = q.3 ∙ s.offset ∙ sym (ap length nil) in
    let stands : (any : List Object) → Stands any (uncut p) g (given ++ q.1.0 ∷ []) = λ any. subst (λ u. Stands any (uncut p) u (given ++ q.1.0 ∷ [])) nil
    (given_stands c.args.heap.now.objects os a p g given s x q.1.0 [] q.1.1 q.1.2 q.2 o (subst (λ u. length u ≤ limit) (sym nil) s.short) (λ e z fit. fits_inside a.begun e z q.0) q.1.3 any) in
    subst (λ u. Finishes os a g given c.datum.result (unended u)) (sym c.datum.ensures.new)
    (finishes_of os a g given (uncut p) q.1.0 c.datum.result (gives os p.stack x q.1.0 c.datum.result q.1.1 c.datum.ensures.tells) (record { stands = stands; less = omega (arith, q.4) }))

pub returns-in-Fault-clause-finishes : goal.returns-in-Fault-clause-finishes
returns-in-Fault-clause-finishes c g given s =
    let a = c.args.self.now in
    stands_ends c.args.heap.now.objects a g given s (Some (fault_of c.in-Fault.f)) (subst (λ r. Lasts c.last.new.heap.objects s.state a r c.last.new.self) c.in-Fault.is (c.in-Ok.ensures.lasts s.state s.holds))

pub returns-else-is_empty-clause-finishes : goal.returns-else-is_empty-clause-finishes
returns-else-is_empty-clause-finishes c g given s =
    let a = c.args.self.now in
    let p = c.last.new.self in
    let os = c.last.new.heap.objects in
    let q = subst (λ r. Lasts os s.state a r p) c.in-Pending.is (c.in-Ok.ensures.lasts s.state s.holds) in
    let some = not_empty p.stack.layers.items (vec_len p.stack.layers) p.stack.layers.ok.0 c.if-is_empty.ensures in
    stands_ends c.args.heap.now.objects a g given s (Some (fault END c.offset.result))
    (q.0.3 Ends [] (fits_end p.begun)
    ∙ over_meaning q.0.0 p.begun p.token.items p.start q.1
    ∙ ap (book []) (some_open os p.stack q.0.0 (offset_of p) q.0.1 (λ e. omega (arith, some, ap length e)) ∙ ap (λ o. Some (fault END o)) (sym c.offset.ensures)))
