-- From the search of the table to the answer of the check.
use Rattle.std.proofs.Common.{◌≡◌, ℕ, List, length, Ok, Err, Result, subst, ◌∙◌, get_or}
use Rattle.rig.specs.Units.{RigUnit}
use Rattle.wiring.specs.declared.port.Port.{Port}
use Rattle.wiring.specs.declared.table.Wiring.{Wiring}
use Rattle.graph.specs.Found.{Searched}
use Rattle.graph.specs.declared.fault.ListFault.{ListFault}
use Rattle.graph.specs.declared.found.Found.{Found}
use Rattle.graph.specs.declared.found.Found.TheVariants.{Order, Circle}
use Rattle.graph.specs.declared.fault.ListFault.TheVariants.{CircleLength, MarksLength}
use Rattle.graph.specs.declared.found.NodeOrder.{NodeOrder}
use Rattle.set_up.specs.declared.table.Outputs.{Outputs}
use Rattle.set_up.specs.Outputs.{outputs_of, feeds}
use Rattle.set_up.specs.Causes.{Joined, Passed, Circled}
use Rattle.set_up.specs.Listing.{entry, feeds_in, Lists}
use Rattle.set_up.proofs.Passes.{same_feeds, passes}

module _ {S : Type 0} (us : List (RigUnit S)) (w : Wiring) (t : Outputs) (circle circle' marks marks' : List ℕ) where
  of_units : (r : Result Found ListFault) → Lists us (outputs_of us) t → Searched (feeds_in w t) t.count circle circle' marks marks' r
      → Searched (feeds us w) (length (outputs_of us)) circle circle' marks marks' r
  of_units r l s =
      subst (λ f. Searched f (length (outputs_of us)) circle circle' marks marks' r) (same_feeds us w t l)
      (subst (λ n. Searched (feeds_in w t) n circle circle' marks marks' r) l.count s)

  pub passed : (order : NodeOrder) → Joined us w circle marks → Lists us (outputs_of us) t → Searched (feeds_in w t) t.count circle circle' marks marks' (Ok (Order order))
      → Passed us w circle circle' marks marks' order
  passed order j l s =
      let q = of_units (Ok (Order order)) l s in
      record {
        both_long = j.touching.unused.sized.both_long;
        passes = passes us w circle marks j q.2.0.no_circle;
        all = q.2.0.whole;
        in_order = q.2.0.is_order;
        circle_kept = q.2.1;
        marks_clear = q.3;
      }

  -- the first output of the circle is one of the rig's
  pub circled : (first : Port) (count : ℕ) → Joined us w circle marks → Lists us (outputs_of us) t → Searched (feeds_in w t) t.count circle circle' marks marks' (Ok (Circle count))
      → first ≡ (entry t (get_or circle' 0 0)).port → Circled us w circle circle' marks marks' first count
  circled first count j l s e =
      let q = of_units (Ok (Circle count)) l s in
      let shown = q.2 in
      let node = shown.circle.nodes 0 shown.circle.some in
      record { joined = j; shown = q.2; named = e ∙ l.each_port (get_or circle' 0 0) node; marks_clear = q.3 }

  -- a search of two lists that are 64 long is not refused
  pub not_refused : (fault : ListFault) → Joined us w circle marks → Searched (feeds_in w t) t.count circle circle' marks marks' (Err fault) → ⊥
  not_refused (CircleLength k) j s = s.1 (s.0 ∙ j.touching.unused.sized.both_long.of_circle)
  not_refused (MarksLength k) j s = s.2 (s.1 ∙ j.touching.unused.sized.both_long.of_marks)
