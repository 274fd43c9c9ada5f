-- What holds of copied arcs holds of the graph that they were copied from.
use Rattle.std.proofs.Common.{◌≡◌, ℕ, ◌+◌, ◌-◌, ◌<◌, ◌≤◌, ◌≢◌, Bool, List, length, get_or, set, take, sym, ap, subst, ◌∙◌, arith, below_more, get_or-set_other, get_or-set_same}
use Rattle.std.proofs.lemmas.List.{get_or-take, length-take-le}
use Rattle.graph.specs.declared.arcs.Arcs.{Arcs}
use Rattle.graph.specs.declared.found.Found.{Found}
use Rattle.graph.specs.declared.found.Found.TheVariants.{Order, Circle}
use Rattle.graph.specs.Order.{Stands, Ready, LowestFirst, IsCircle, IsOrder}
use Rattle.graph.specs.Copied.{fed, Copied}
use Rattle.graph.specs.declared.found.NodeOrder.{NodeOrder}
use Rattle.graph.specs.Found.{listed, Ordered, Answered}
use Rattle.graph.proofs.Orders.{no_circle}

-- one element more is as it is to be
pub one_more : {X : Type 0} (P : ℕ → X → Type 0) (xs : List X) (i : ℕ) (x d : X) → i < length xs
    → ((v : ℕ) → v < i → P v (get_or xs v d)) → P i x → (v : ℕ) → v < i + 1 → P v (get_or (set xs i x) v d)
one_more P xs i x d lt below here =
    below_more (λ v. P v (get_or (set xs i x) v d)) i
    (λ v h. let ne : v ≢ i = omega arith in subst (P v) (sym (get_or-set_other xs i v x d ne)) (below v h))
    (subst (P i) (sym (get_or-set_same xs i x d lt)) here)

-- f and h have the same arcs between the first n nodes
pub record Alike (f h : ℕ → ℕ → Bool) (n : ℕ) : Type 0 where
  pub same : (u v : ℕ) → u < n → v < n → f u v ≡ h u v

back : (f h : ℕ → ℕ → Bool) (n : ℕ) → Alike f h n → Alike h f n
back f h n a = record { same = λ u v lu lv. sym (a.same u v lu lv) }

ready_alike : (f h : ℕ → ℕ → Bool) (n : ℕ) (o : List ℕ) (k v : ℕ) → Alike f h n → Ready f n o k v → Ready h n o k v
ready_alike f h n o k v a r = (r.0, r.1, λ u lu fed_by. r.2 u lu (a.same u v lu r.0 ∙ fed_by))

circle_alike : (f h : ℕ → ℕ → Bool) (n : ℕ) (l : List ℕ) (k : ℕ) → Alike f h n → IsCircle f n l k → IsCircle h n l k
circle_alike f h n l k a c =
    let some = c.some in
    record {
      some = c.some;
      nodes = c.nodes;
      different = c.different;
      next = λ i lt. sym (a.same (get_or l i 0) (get_or l (i + 1) 0) (c.nodes i (omega arith)) (c.nodes (i + 1) lt)) ∙ c.next i lt;
      last = sym (a.same (get_or l (k - 1) 0) (get_or l 0 0) (c.nodes (k - 1) (omega arith)) (c.nodes 0 some)) ∙ c.last;
    }

order_alike : (f h : ℕ → ℕ → Bool) (n : ℕ) (o : List ℕ) → Alike f h n → IsOrder f n o → IsOrder h n o
order_alike f h n o a p =
    let b = back f h n a in
    record {
      lowest = λ j lt. (
        ready_alike f h n o j (get_or o j 0) a (p.lowest j lt).0,
        λ w lw r. (p.lowest j lt).1 w lw (ready_alike h f n o j w b r),
      );
      all = p.all;
    }

answered_alike : (f h : ℕ → ℕ → Bool) (n : ℕ) (before after : List ℕ) (found : Found) → Alike f h n
    → Answered f n before after found → Answered h n before after found
answered_alike f h n before after (Order order) a answer =
    let o = answer.0 in
    (record { whole = o.whole; is_order = order_alike f h n (listed order) a o.is_order; no_circle = λ l k c. o.no_circle l k (circle_alike h f n l k (back f h n a) c) }, answer.1)
answered_alike f h n before after (Circle count) a answer = record {
  circle = circle_alike f h n after count a answer.circle;
  no_order = λ o p. answer.no_order o (order_alike h f n o (back f h n a) p);
  rest = answer.rest;
}

-- an answer about the copy is one about the graph
pub answered : (f : ℕ → ℕ → Bool) (n : ℕ) (arcs : Arcs) (before after : List ℕ) (found : Found) → Copied f n arcs
    → Answered (fed arcs) arcs.count before after found → Answered f n before after found
answered f n arcs before after found copied answer =
    answered_alike (fed arcs) f n before after found (record { same = copied.same })
    (subst (λ k. Answered (fed arcs) k before after found) copied.count answer)

-- the places of an order beyond its nodes do not matter
places_alike : (o p : List ℕ) (k : ℕ) → ((j : ℕ) → j < k → get_or p j 0 ≡ get_or o j 0) → (v : ℕ) → Stands o k v → Stands p k v
places_alike o p k e v s = (s.0, s.1, e s.0 s.1 ∙ s.2)

ready_listed : (f : ℕ → ℕ → Bool) (n : ℕ) (o p : List ℕ) (k v : ℕ) → ((j : ℕ) → j < k → get_or p j 0 ≡ get_or o j 0)
    → Ready f n o k v → Ready f n p k v
ready_listed f n o p k v e r = (
  r.0,
  (λ s. r.1 (places_alike p o k (λ j lt. sym (e j lt)) v s)),
  λ u lu fed_by. places_alike o p k e u (r.2 u lu fed_by),
)

order_listed : (f : ℕ → ℕ → Bool) (n : ℕ) (o : List ℕ) → IsOrder f n o → IsOrder f n (take n o)
order_listed f n o order =
    let e : (j : ℕ) → j < n → get_or (take n o) j 0 ≡ get_or o j 0 = λ j lt. get_or-take n o j 0 lt in
    let lowest : LowestFirst f n (take n o) n = λ j lt.
    subst (λ x. Ready f n (take n o) j x × ((w : ℕ) → w < x → Ready f n (take n o) j w → ⊥)) (sym (e j lt)) (
      ready_listed f n o (take n o) j (get_or o j 0) (λ i li. e i (omega arith)) (order.lowest j lt).0,
      λ w lw r. (order.lowest j lt).1 w lw (ready_listed f n (take n o) o j w (λ i li. sym (e i (omega arith))) r),
    )
    in record {
      lowest = lowest;
      all = λ v lv. places_alike o (take n o) n e v (order.all v lv);
    }

-- an order at the front of the places is listed
pub ordered : (f : ℕ → ℕ → Bool) (n : ℕ) (order : NodeOrder) → order.count ≡ n → IsOrder f n order.nodes → Ordered f n order
ordered f n order count is =
    let long : n ≤ length order.nodes = subst (λ k. k ≤ length order.nodes) count order.room in
    let e : take n order.nodes ≡ listed order = ap (λ k. take k order.nodes) (sym count) in
    record {
      whole = ap length (sym e) ∙ length-take-le n order.nodes long;
      is_order = subst (IsOrder f n) e (order_listed f n order.nodes is);
      no_circle = λ l k c. no_circle f n order.nodes l k is c;
    }
