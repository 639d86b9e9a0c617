use Rattle.std.proofs.Common.{◌≡◌, ◌∙◌, ◌<◌, ◌+◌, ◌++◌, ◌∷◌, [], Some, sym, ap, ap₂, subst, suc, length, take, drop, get_or, arith, true, refl}
use Rattle.mw_model.specs.Terms.Object.{is_name_byte, Symbol, name_of_bytes}
use Rattle.mw_model.specs.Texts.Lexemes.{is_white, lexemes_from, fault, BYTE}
use Rattle.std.specs.List.{list_all}
use Rattle.mw_model.specs.Texts.Grammar.{book}
use Rattle.mw_read.specs.Resume.{resume}
use Rattle.mw_read.specs.Parsing.{ahead}
use Rattle.mw_read.specs.Pausing.{GoesOn}
use Rattle.mw_read.specs.declared.parser.Begun.TheVariants.{Barred, AfterBar}
use Rattle.mw_read.specs.declared.step.SyntaxKind.TheVariants as kinds
use Rattle.mw_read.proofs.Holding.{sound_clamp}
use Rattle.mw_read.proofs.Bare.{split_at, all_append, go_on, go_on_past, both_length, empty_list, not_eqb}
use Rattle.mw_read.proofs.Parsing.{bars_whole, bars_faults, bars_empty}
use Rattle.mw_read.proofs.Pausing.{whole_taken}
use Rattle.mw_read.proofs.Reading.{begun_text, begun_free, IsReadTo, read_to}
use Rattle.mw_read.proofs.Moving.{moves_all, ends_with, barred_moved, barred_advances, bars_moved}
use Rattle.mw_read.proofs.Advancing.{bars_advance, fault_advances}
use Rattle.mw_read.proofs.parser.Parser.in_bars.Goals as goal
use Rattle.mw_read.proofs.parser.Parser.in_bars.Goals.{Else-n-rest, Else-length-eq0}

-- the name, up to the byte that ends it
name : (c : goal.Else-n-rest) → IsReadTo is_name_byte c.args.self.now.token.items c.args.rest.now c.name_bytes-n.result
name c = read_to (begun_text c.requires.parser c.requires.begun) c.name_bytes-n.ensures c.if-n-rest.false

-- it has a byte
some : (c : goal.Else-length-eq0) → 0 < length (c.args.self.now.token.items ++ take c.name_bytes-n.result c.args.rest.now)
some c = omega (arith, both_length c.args.self.now.token.items c.args.rest.now c.name_bytes-n.result c.name_bytes-n.ensures.within, c.len.ensures, c.args.self.now.token.ok.0, c.if-length-eq0.false)

pub returns-then-rest-n-ne124-clause-advances : goal.returns-then-rest-n-ne124-clause-advances
returns-then-rest-n-ne124-clause-advances c t h =
    let a = c.args.self.now in
    let rest = c.args.rest.now in
    let n = c.name_bytes-n.result in
    let s = name (goal.at.returns-then-rest-n-ne124-clause-advances c).Else-n-rest in
    let whole = a.token.items ++ take n rest in
    let o : a.start + 1 + length whole ≡ a.start + 1 + (c.len.result + n) = omega (arith, s.size, c.len.ensures, a.token.ok.0) in
    fault_advances c.args.heap.now.objects t a a rest c.fault.result 0 (record { kind = kinds.Byte; offset = a.start + 1 + (c.len.result + n) }) c.fault.ensures
    (λ e z.
    ap (λ m. resume t (ahead e m a.token.items a.start (rest ++ z))) c.requires.begun
    ∙ ap (λ y. resume t (lexemes_from e a.start 0 (124 ∷ y))) (go_on a.token.items rest n z s.more)
    ∙ bars_faults e t a.start (get_or rest n 0) whole (drop (suc n) rest ++ z) s.all s.ends
    (not_eqb (get_or rest n 0) 124 c.if-rest-n-ne124.true) (begun_free c.requires.parser c.requires.begun refl h) (sound_clamp c.args.heap.now.objects a.stack t h.means)
    ∙ ap (λ i. book [] (Some (fault BYTE i))) o)

pub returns-then-length-eq0-clause-advances : goal.returns-then-length-eq0-clause-advances
returns-then-length-eq0-clause-advances c t h =
    let a = c.args.self.now in
    let rest = c.args.rest.now in
    let n = c.name_bytes-n.result in
    let s = name (goal.at.returns-then-length-eq0-clause-advances c).Else-n-rest in
    let none : length (a.token.items ++ take n rest) ≡ 0 = omega (arith, s.size, c.len.ensures, a.token.ok.0, c.if-length-eq0.true) in
    fault_advances c.args.heap.now.objects t a a rest c.fault-then-length-eq0.result 0 (record { kind = kinds.Token; offset = a.start }) c.fault-then-length-eq0.ensures
    (λ e z.
    ap (λ m. resume t (ahead e m a.token.items a.start (rest ++ z))) c.requires.begun
    ∙ ap (λ y. resume t (lexemes_from e a.start 0 (124 ∷ y))) (go_on a.token.items rest n z s.more)
    ∙ ap₂ (λ u b. resume t (lexemes_from e a.start 0 (124 ∷ (u ++ b ∷ (drop (suc n) rest ++ z))))) (empty_list (a.token.items ++ take n rest) none) c.if-rest-n-ne124.false
    ∙ bars_empty e t a.start (drop (suc n) rest ++ z) (begun_free c.requires.parser c.requires.begun refl h) (sound_clamp c.args.heap.now.objects a.stack t h.means))

pub pause-requires : goal.pause-requires
pause-requires c =
    let a = c.args.self.now in
    let rest = c.args.rest.now in
    let run = subst (λ u. list_all is_name_byte u ≡ true) (whole_taken rest c.name_bytes-n.result c.if-n-rest.true) c.name_bytes-n.ensures.all in
    subst (λ m. GoesOn m (a.token.items ++ rest)) (sym c.requires.begun) (all_append is_name_byte a.token.items rest (begun_text c.requires.parser c.requires.begun) run)

pub returns-then-n-rest-2-clause-moves : goal.returns-then-n-rest-2-clause-moves
returns-then-n-rest-2-clause-moves c =
    let a = c.args.self.now in
    let s = name (goal.at.returns-then-n-rest-2-clause-moves c).Else-n-rest in
    barred_moved a (record a { begun = Barred; token = c.extend_from_slice.new.self }) c.args.rest.now c.name_bytes-n.result c.requires.begun refl refl c.in_ok-extend_from_slice.ensures.items s.more (omega (arith, c.if-n-rest-2.true))

pub returns-then-n-rest-2-clause-advances : goal.returns-then-n-rest-2-clause-advances
returns-then-n-rest-2-clause-advances c t h =
    let a = c.args.self.now in
    let k = goal.at.returns-then-n-rest-2-clause-advances c in
    let s = name k.Else-n-rest in
    barred_advances a (record a { begun = Barred; token = c.extend_from_slice.new.self }) c.args.rest.now c.name_bytes-n.result c.requires.begun refl refl c.in_ok-extend_from_slice.ensures.items s.more
    c.args.heap.now.objects t c.requires.parser refl h c.if-rest-n-ne124.false s.all (some k.Else-length-eq0)

pub end_bars-requires-clause-name : goal.end_bars-requires-clause-name
end_bars-requires-clause-name c = (name (goal.at.end_bars-requires-clause-name c).Else-n-rest).all

pub end_bars-requires-clause-some : goal.end_bars-requires-clause-some
end_bars-requires-clause-some c = some (goal.at.end_bars-requires-clause-some c).Else-length-eq0

pub returns-clause-moves : goal.returns-clause-moves
returns-clause-moves c =
    let a = c.args.self.now in
    let rest = c.args.rest.now in
    let n = c.name_bytes-n.result in
    let s = name (goal.at.returns-clause-moves c).Else-n-rest in
    moves_all c.in_ok-outcome.outcome a rest (n + 1) c.end_bars.new.self (bars_moved a c.end_bars.new.self rest n c.requires.begun c.end_bars.ensures.begun c.end_bars.ensures.start (omega (arith, s.more, c.if-n-rest-2.false)))
    (ends_with c.end_bars.new.self.begun AfterBar rest n c.end_bars.ensures.begun tt (ap is_white c.if-rest-n-ne124.false))

pub returns-clause-advances : goal.returns-clause-advances
returns-clause-advances c t h =
    let a = c.args.self.now in
    let rest = c.args.rest.now in
    let n = c.name_bytes-n.result in
    let k = goal.at.returns-clause-advances c in
    let s = name k.Else-n-rest in
    let whole = a.token.items ++ take n rest in
    bars_advance c.end_bars.new.heap.objects t a c.end_bars.new.self rest (n + 1) (get_or rest (n + 1) 0) (a.start + 2 + length whole) (drop (suc (n + 1)) rest) (Symbol (name_of_bytes whole)) c.in_ok-outcome.outcome
    (λ f e. split_at rest (n + 1) (omega (arith, s.more, c.if-n-rest-2.false)))
    (λ e z fit.
    ap (λ m. resume t (ahead e m a.token.items a.start (take (n + 1) rest ++ z))) c.requires.begun
    ∙ ap (λ y. resume t (lexemes_from e a.start 0 (124 ∷ y))) (go_on_past a.token.items rest n z s.more ∙ ap (λ b. whole ++ b ∷ z) c.if-rest-n-ne124.false)
    ∙ ap (resume t) (bars_whole e a.start whole z (some k.Else-length-eq0) s.all fit))
    (c.in_ok-outcome.ensures.took t h) c.end_bars.ensures.begun c.end_bars.ensures.start
