use Rattle.std.proofs.Common.{◌∙◌, ◌+◌, ◌||◌, sym, ap, subst}
use Rattle.mw_model.specs.Texts.Lexemes.{Dot, Point, TOKEN, fault, token_form}
use Rattle.mw_lex.specs.Tokens.{IsToken, form_big}
use Rattle.mw_heap.proofs.Objects.{Grows-trans}
use Rattle.mw_read.specs.Machine.{on}
use Rattle.mw_read.specs.Clamp.{clamp_state}
use Rattle.mw_read.specs.Held.{Took}
use Rattle.mw_read.specs.Lexing.{token_lexeme}
use Rattle.mw_read.specs.declared.stack.Stack.{Stack}
use Rattle.mw_read.proofs.Holding.{atom_took, holds_grows, if_ok_all, ready_grows, sound_clamp, stack_grows, took}
use Rattle.mw_read.proofs.Parsing.{wrong_breaks}
use Rattle.mw_read.proofs.texts.end_token.Goals as goal

pub take-requires-clause-stack : goal.take-requires-clause-stack
take-requires-clause-stack g c =
    let k = stack_grows c.args.heap.now.objects c.token_of.new.heap.objects c.args.stack.now c.token_of.ensures.grows c.requires.stack in record { pile = k.pile; listed = k.listed }

pub take-requires-clause-comes : goal.take-requires-clause-comes
take-requires-clause-comes g c =
    let m = subst (λ k. IsToken c.token_of.new.heap.objects k (token_form c.args.token.now)) c.in-Atom.is c.in_ok-x.ensures.made in
    (m.2, ready_grows c.args.heap.now.objects c.token_of.new.heap.objects c.args.stack.now c.token_of.ensures.grows c.requires.stack c.requires.begins)

pub returns-in-Atom-clause-took : goal.returns-in-Atom-clause-took
returns-in-Atom-clause-took g c =
    let f = token_form c.args.token.now in
    let m = subst (λ k. IsToken c.token_of.new.heap.objects k f) c.in-Atom.is c.in_ok-x.ensures.made in
    if_ok_all _ _ _ _ c.take.result
    (λ r a b d e t h n.
    subst (λ u. Took c.take.new.heap.objects c.take.new.self r (on t (token_lexeme c.args.start c.args.glued u))) (sym m.1)
    (atom_took c.args.heap.now.objects c.token_of.new.heap.objects c.take.new.heap.objects c.args.stack.now c.take.new.self r t m.0 c.in-Atom.x c.args.start h c.token_of.ensures.grows m.3 a b d
    (e ∙ c.in_ok-x.ensures.big ∙ ap (λ u. c.args.stack.now.big || form_big u) m.1)))
    c.take.ensures.stack c.take.ensures.datum c.take.ensures.turn c.take.ensures.big

pub take-requires-in-Dot-clause-stack : goal.take-requires-in-Dot-clause-stack
take-requires-in-Dot-clause-stack g c =
    let k = stack_grows c.args.heap.now.objects c.token_of.new.heap.objects c.args.stack.now c.token_of.ensures.grows c.requires.stack in record { pile = k.pile; listed = k.listed }

pub returns-else-glued-clause-took : goal.returns-else-glued-clause-took
returns-else-glued-clause-took g c =
    let f = token_form c.args.token.now in
    let os = c.token_of.new.heap.objects in
    let m = subst (λ k. IsToken os k f) c.in-Dot.is c.in_ok-x.ensures.made in
    if_ok_all _ _ _ _ c.take-in-Dot.result
    (λ r a b d e t h n.
    subst (λ u. Took c.take-in-Dot.new.heap.objects c.take-in-Dot.new.self r (on t (token_lexeme c.args.start c.args.glued u))) (sym m)
    (subst (λ u. Took c.take-in-Dot.new.heap.objects c.take-in-Dot.new.self r (on t (token_lexeme c.args.start u Point))) (sym c.if-glued.false)
    (took c.take-in-Dot.new.heap.objects c.args.stack.now c.take-in-Dot.new.self r t (Dot c.args.start) c.args.heap.now.objects h tt a b
    (d (clamp_state t) (holds_grows c.args.heap.now.objects os c.args.stack.now t c.token_of.ensures.grows h).means)
    (e ∙ c.in_ok-x.ensures.big ∙ ap (λ u. c.args.stack.now.big || form_big u) m))))
    c.take-in-Dot.ensures.stack c.take-in-Dot.ensures.datum c.take-in-Dot.ensures.turn c.take-in-Dot.ensures.big

pub returns-in-Atom-clause-grows : goal.returns-in-Atom-clause-grows
returns-in-Atom-clause-grows g c = Grows-trans _ _ _ c.token_of.ensures.grows c.take.ensures.grows

pub returns-else-glued-clause-grows : goal.returns-else-glued-clause-grows
returns-else-glued-clause-grows g c = Grows-trans _ _ _ c.token_of.ensures.grows c.take-in-Dot.ensures.grows

pub returns-then-glued-clause-took : goal.returns-then-glued-clause-took
returns-then-glued-clause-took g c t h full =
    let os = c.token_of.new.heap.objects in
    let s : Stack = record c.args.stack.now { big = c.token_of.new.big } in
    let m = subst (λ k. IsToken os k (token_form c.args.token.now)) c.in-Dot.is c.in_ok-x.ensures.made in
    subst (λ r. Took os s r (on t (token_lexeme c.args.start c.args.glued (token_form c.args.token.now)))) (sym c.fault.ensures)
    (ap (λ u. on t (token_lexeme c.args.start c.args.glued u)) m ∙ ap (λ b. on t (token_lexeme c.args.start b Point)) c.if-glued.true
    ∙ wrong_breaks t c.args.start (fault TOKEN (c.args.start + 1)) full (sound_clamp c.args.heap.now.objects c.args.stack.now t h.means))

pub returns-in-Bad-clause-took : goal.returns-in-Bad-clause-took
returns-in-Bad-clause-took g c t h full =
    let os = c.token_of.new.heap.objects in
    let s : Stack = record c.args.stack.now { big = c.token_of.new.big } in
    let m = subst (λ k. IsToken os k (token_form c.args.token.now)) c.in-Bad.is c.in_ok-x.ensures.made in
    subst (λ r. Took os s r (on t (token_lexeme c.args.start c.args.glued (token_form c.args.token.now)))) (sym c.fault-in-Bad.ensures)
    (ap (λ u. on t (token_lexeme c.args.start c.args.glued u)) m
    ∙ wrong_breaks t c.args.start (fault TOKEN c.args.start) full (sound_clamp c.args.heap.now.objects c.args.stack.now t h.means))
