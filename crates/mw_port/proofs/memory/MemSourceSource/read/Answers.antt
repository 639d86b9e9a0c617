use Rattle.std.proofs.Common.{◌≡◌, ℕ, ◌+◌, ◌-◌, ◌≤◌, List, ◌++◌, length, take, drop, sym, ap, ◌∙◌, arith}
use Rattle.std.proofs.lemmas.List.{take-append-drop, drop-drop, take-append-le, length-drop, length-take-le}
use Rattle.std.proofs.Math.Seq.{take-length}
use Rattle.mw_port.proofs.memory.MemSourceSource.read.Goals as goal

-- the bytes from g on are the n that were copied to the front of a buffer, and those from g + n on
front_and_rest : (all piece rest : List ℕ) (g n : ℕ) → g + n ≤ length all → piece ≡ take n (drop g all) → drop g all ≡ take n (piece ++ rest) ++ drop (g + n) all
front_and_rest all piece rest g n fits e =
    let long : n ≤ length (drop g all) = omega (arith, length-drop g all) in
    let size : length piece ≡ n = ap length e ∙ length-take-le n (drop g all) long in
    let fit : n ≤ length piece = omega (arith, size) in
    let front : take n (piece ++ rest) ≡ piece = take-append-le n piece rest fit ∙ (ap (λ k. take k piece) (sym size) ∙ take-length piece) in
    sym (ap (λ p. p ++ drop (g + n) all) (front ∙ e) ∙ (ap (λ r. take n (drop g all) ++ r) (sym (drop-drop n g all)) ∙ take-append-drop n (drop g all)))

pub returns-clause-given : goal.returns-clause-given
returns-clause-given c =
    let all = c.self.inside.bytes.items in
    let g = c.self.inside.given in
    let n = c.moved-n.result in
    let fits : g + n ≤ length all = omega (arith, c.self.invariant) in
    let amount : (g + n) - g ≡ n = omega arith in
    let copied : c.copy_from_slice.new.self ≡ take n (drop g all) =
    c.copy_from_slice.ensures.after ∙ (ap (λ k. take k (drop g c.deref-3.result.now)) amount ∙ ap (λ xs. take n (drop g xs)) c.deref-3.ensures.value) in
    ap (λ s. s.left) (sym c.self.view_is) ∙ front_and_rest all c.copy_from_slice.new.self (drop n c.args.buffer.now) g n fits copied
