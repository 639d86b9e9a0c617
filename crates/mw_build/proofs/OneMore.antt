-- One more piece, and rules that go deeper.
use Rattle.std.proofs.Common.{◌≡◌, ℕ, zero, suc, ◌+◌, ◌-◌, ◌<◌, List, [], get_or, length, drop, sym, ap, ◌∙◌, arith}
use Rattle.std.proofs.lemmas.List.{at_drop_more}
use Rattle.mw_model.specs.Terms.Object.{Object}
use Rattle.mw_build.specs.declared.piece.Piece.{Piece}
use Rattle.mw_build.specs.Pieces.{Made, step, run}
use Rattle.mw_build.specs.Rules.{made_by}
use Rattle.mw_build.specs.Stacks.{newest}

pub one_more_piece : (made : Made) (given same : List Object) (pieces : List Piece) (i : ℕ) (d : Piece) (stack next : List Object) → same ≡ given → i < length pieces → next ≡ step made same stack (get_or pieces i d) → run made given next (drop (i + 1) pieces) ≡ run made given stack (drop i pieces)
one_more_piece made given same pieces i d stack next s l e =
    ap (λ z. run made given z (drop (i + 1) pieces)) (e ∙ ap (λ g. step made g stack (get_or pieces i d)) s)
    ∙ sym (at_drop_more (run made given stack) pieces i d l)

pub one_deeper : (rules : List (List Piece)) (depth n : ℕ) (given : List Object) → 0 < depth → newest (run (made_by rules (depth - 1)) given [] (get_or rules n [])) ≡ made_by rules depth n given
one_deeper rules zero n given h = absurd (omega (arith, h))
one_deeper rules (suc depth) n given h =
    let less : suc depth - 1 ≡ depth = omega arith in
    ap (λ d. newest (run (made_by rules d) given [] (get_or rules n []))) less
