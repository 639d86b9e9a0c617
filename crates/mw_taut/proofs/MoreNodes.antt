-- Nodes stay nodes where there are more equations, and with one more node.
use Rattle.std.proofs.Common.{◌≡◌, ℕ, suc, ◌+◌, arith, List, [], ◌∷◌, ◌++◌, length, sym, subst, append_assoc}
use Rattle.std.proofs.lemmas.List.{append-nil}
use Rattle.mw_model.specs.Terms.Term.{Formula}
use Rattle.mw_taut.specs.declared.table.Node.{Node}
use Rattle.mw_taut.specs.declared.table.Node.TheVariants.{Equation, Not, Or}
use Rattle.mw_taut.specs.Nodes.{IsNode, AreNodes}
use Rattle.mw_taut.specs.Meaning.{IsNodeOf, AreNodesOf}
use Rattle.mw_taut.proofs.Elements.{at_more}

node_wider : (es before : List Formula) (E : Formula) (n : Node) (G : Formula) → IsNodeOf es before n G → IsNodeOf (es ++ E ∷ []) before n G
node_wider es before E (Equation k) G h = at_more es E G k h
node_wider es before E (Not a) G h = h
node_wider es before E (Or a b) G h = h

pub nodes_wider : (es before : List Formula) (E : Formula) (ns : List Node) (Gs : List Formula) → AreNodesOf es before ns Gs → AreNodesOf (es ++ E ∷ []) before ns Gs
nodes_wider es before E [] [] h = tt
nodes_wider es before E [] (G ∷ Gs) h = h
nodes_wider es before E (n ∷ ns) [] h = h
nodes_wider es before E (n ∷ ns) (G ∷ Gs) h = (node_wider es before E n G h.0, nodes_wider es (before ++ G ∷ []) E ns Gs h.1)

pub nodes_more : (es before : List Formula) (ns : List Node) (Gs : List Formula) (n : Node) (G : Formula) → AreNodesOf es before ns Gs → IsNodeOf es (before ++ Gs) n G → AreNodesOf es before (ns ++ n ∷ []) (Gs ++ G ∷ [])
nodes_more es before [] [] n G h i = (subst (λ l. IsNodeOf es l n G) (append-nil before) i, tt)
nodes_more es before [] (H ∷ Gs) n G h i = absurd h
nodes_more es before (m ∷ ns) [] n G h i = absurd h
nodes_more es before (m ∷ ns) (H ∷ Gs) n G h i = (h.0, nodes_more es (before ++ H ∷ []) ns Gs n G h.1 (subst (λ l. IsNodeOf es l n G) (sym (append_assoc before (H ∷ []) Gs)) i))

valid_wider : (m p : ℕ) (n : Node) → IsNode m p n → IsNode (suc m) p n
valid_wider m p (Equation k) h = omega (arith, h)
valid_wider m p (Not a) h = h
valid_wider m p (Or a b) h = h

pub all_valid_wider : (m p : ℕ) (ns : List Node) → AreNodes m p ns → AreNodes (suc m) p ns
all_valid_wider m p [] h = tt
all_valid_wider m p (n ∷ ns) h = (valid_wider m p n h.0, all_valid_wider m (suc p) ns h.1)

pub all_valid_more : (m p : ℕ) (ns : List Node) (n : Node) → AreNodes m p ns → IsNode m (p + length ns) n → AreNodes m p (ns ++ n ∷ [])
all_valid_more m p [] n h i = (subst (λ k. IsNode m k n) (none p) i, tt)
  where
    none : (k : ℕ) → k + 0 ≡ k
    none k = omega arith
all_valid_more m p (x ∷ ns) n h i = (h.0, all_valid_more m (suc p) ns n h.1 (subst (λ k. IsNode m k n) (next p (length ns)) i))
  where
    next : (k l : ℕ) → k + suc l ≡ suc k + l
    next k l = omega arith
