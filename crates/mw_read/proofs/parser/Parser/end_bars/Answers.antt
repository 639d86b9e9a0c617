use Rattle.std.proofs.Common.{◌≡◌, ℕ, ◌<◌, ◌∙◌, ◌&&◌, List, [], ◌∷◌, ◌++◌, length, ap, sym, subst, true, false, refl, arith, length-append}
use Rattle.mw_model.specs.Terms.Object.{Symbol, name_of_bytes, is_name, is_name_byte}
use Rattle.std.specs.List.{list_all}
use Rattle.mw_heap.proofs.Objects.{Grows-trans}
use Rattle.mw_read.proofs.Holding.{stack_grows, ready_grows, atom_took, or_small, if_ok_all}
use Rattle.mw_read.proofs.Bare.{kept_is}
use Rattle.mw_read.proofs.parser.Parser.end_bars.Goals as goal
use Rattle.mw_read.proofs.parser.Parser.end_bars.Goals.{After-whole_text}

are_same : (bs : List ℕ) → list_all is_name_byte bs ≡ list_all is_name_byte bs
are_same [] = refl
are_same (b ∷ bs) = ap (λ u. is_name_byte b && u) (are_same bs)

are_name : (bs : List ℕ) → list_all is_name_byte bs ≡ true → 0 < length bs → is_name bs ≡ true
are_name [] a l = absurd (omega arith)
are_name (b ∷ bs) a l = ap (λ u. is_name_byte b && u) (are_same bs) ∙ a

-- the name is what was kept and these bytes
whole : (c : goal.After-whole_text) → c.whole_text.result.now ≡ c.args.self.now.token.items ++ c.args.bytes.now
whole c =
    kept_is c.args.self.now.token.items c.keep_after.new.kept.items c.deref.result.now c.args.bytes.now c.whole_text.result.now
    c.in_ok-keep_after.ensures.some c.in_ok-keep_after.ensures.none c.deref.ensures.value c.whole_text.ensures.kept c.whole_text.ensures.none

pub symbol-requires : goal.symbol-requires
symbol-requires c = subst (λ u. is_name u ≡ true) (sym (whole (goal.at.symbol-requires c).After-whole_text)) (are_name (c.args.self.now.token.items ++ c.args.bytes.now) c.requires.name c.requires.some)

pub returns-in_err-keep_after-clause-start : goal.returns-in_err-keep_after-clause-start
returns-in_err-keep_after-clause-start c = omega (arith, length-append c.args.self.now.token.items c.args.bytes.now, c.len.ensures, c.args.self.now.token.ok.0)

pub returns-in_err-x-clause-start : goal.returns-in_err-x-clause-start
returns-in_err-x-clause-start c = omega (arith, length-append c.args.self.now.token.items c.args.bytes.now, c.len.ensures, c.args.self.now.token.ok.0)

pub returns-clause-start : goal.returns-clause-start
returns-clause-start c = omega (arith, length-append c.args.self.now.token.items c.args.bytes.now, c.len.ensures, c.args.self.now.token.ok.0)

pub returns-clause-grows : goal.returns-clause-grows
returns-clause-grows c = Grows-trans _ _ _ c.symbol.ensures.grows c.take.ensures.grows

pub take-requires-clause-stack : goal.take-requires-clause-stack
take-requires-clause-stack c = stack_grows c.args.heap.now.objects c.symbol.new.self.objects c.args.self.now.stack c.symbol.ensures.grows c.requires.parser.stack

pub take-requires-clause-comes : goal.take-requires-clause-comes
take-requires-clause-comes c =
    let a = c.args.self.now in
    (c.in_ok-x.ensures.made.0, ready_grows c.args.heap.now.objects c.symbol.new.self.objects a.stack c.symbol.ensures.grows c.requires.parser.stack (c.requires.parser.ready c.requires.inside))

pub returns-clause-took : goal.returns-clause-took
returns-clause-took c =
    let a = c.args.self.now in
    let y = Symbol (name_of_bytes (a.token.items ++ c.args.bytes.now)) in
    if_ok_all _ _ _ _ c.take.result
    (λ r p d f e t h.
    atom_took c.args.heap.now.objects c.symbol.new.self.objects c.take.new.heap.objects a.stack c.take.new.self r t y c.in_ok-x.x a.start h c.symbol.ensures.grows
    (c.in_ok-x.ensures.made.1 ∙ ap (λ u. Symbol (name_of_bytes u)) (whole (goal.at.returns-clause-took c).After-whole_text)) p d f (or_small c.take.new.self.big a.stack.big false refl e))
    c.take.ensures.stack c.take.ensures.datum c.take.ensures.turn c.take.ensures.big
