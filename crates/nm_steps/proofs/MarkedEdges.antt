-- No null edge of a memory has a mark.
use Rattle.std.proofs.Common.{◌≡◌, ℕ, ◌==◌, ◌≤◌, ◌+◌, ◌-◌, Bool, true, false, not, refl, sym, ap, subst, ◌∙◌, true≢false, arith}
use Rattle.std.specs.Prelude.{Option, Some, None, nat_lt}
use Rattle.std.proofs.lemmas.Bool.{cond_both, or_parts, ltb-false}
use Rattle.nm_edge.specs.Edges.{Edge, IsEdge, to, is_to, tagged, untagged}
use Rattle.nm_edge.specs.Layouts.{Layout}
use Rattle.nm_edge.specs.declared.edge.Side.{Side}
use Rattle.nm_edge.specs.declared.edge.Side.TheVariants.{Left, Right}
use Rattle.nm_model.specs.declared.event.Field.TheVariants.{Key, Edge as EdgeOn, Birth}
use Rattle.nm_model.specs.declared.event.Event.{Event}
use Rattle.nm_model.specs.declared.event.Event.TheVariants.{Sight, SightFor, Announce, Leave, LeaveWith, Scan, Advance, Claim, Give, Look, Fill, Link, Flag, Tag, Splice, Swap, Join}
use Rattle.nm_model.specs.declared.memory.Node.{Node}
use Rattle.nm_model.specs.Maps.{is_number}
use Rattle.nm_model.specs.Memory.{Memory, node, edge, edge_of, blank, put_node, put_edge, with_edge}
use Rattle.nm_model.specs.Knowledge.{read}
use Rattle.nm_model.specs.Learning.{flag_to}
use Rattle.nm_model.specs.Step.{outside, filled, exchanged, kept, refusal, write}
use Rattle.nm_model.specs.Runs.{State, of, start, applied, refusal_of}
use Rattle.nm_model.specs.Laws.{OfEachState}
use Rattle.nm_model.proofs.Numbers.{repeated}
use Rattle.nm_laws.proofs.Steps.{Allowed, by_steps, passed}
use Rattle.nm_laws.proofs.Lawful.{IsLawful, lawful_step, lawful_start}
use Rattle.nm_laws.proofs.Trees.{each_slot}
use Rattle.nm_steps.specs.Packing.{NullEdgesAreUnmarked}
use Rattle.nm_steps.proofs.PackedSizes.{set_keeps}

abbrev Plain : Node → Type 0
Plain n = (d : Side) → IsEdge (edge_of n d)

both : (n : Node) → IsEdge n.left → IsEdge n.right → Plain n
both n l r Left = l
both n l r Right = r

abbrev Unmarked : Memory → Type 0
Unmarked m = (x : ℕ) → Plain (node m x)

node_unmarked : (m : Memory) (s : ℕ) (n : Node) → Unmarked m → Plain n → Unmarked (put_node m s n)
node_unmarked m s n all new x = set_keeps Plain m.nodes s x n blank new (all x)

edge_unmarked : (m : Memory) (s : ℕ) (side : Side) (e : Edge) → Unmarked m → IsEdge e → Unmarked (put_edge m s side e)
edge_unmarked m s Left e all new = node_unmarked m s _ all (both (with_edge (node m s) Left e) new (all s Right))
edge_unmarked m s Right e all new = node_unmarked m s _ all (both (with_edge (node m s) Right e) (all s Left) new)

exchange_unmarked : (m : Memory) (p : ℕ) (side : Side) (s : ℕ) (e : Edge) → Unmarked m → IsEdge e
    → Unmarked (exchanged m p side s e)
exchange_unmarked m p side s e all new = cond_both (is_to (edge m p side) s) (put_edge m p side e) m Unmarked
    (λ _. edge_unmarked m p side e all new) (λ _. all)

to_is : (s : ℕ) → IsEdge (to s)
to_is s = record { flag = λ _. refl; tag = λ _. refl }

tagged_is : (e : Edge) → IsEdge e → IsEdge (tagged e)
tagged_is e is = record { flag = is.flag; tag = λ null. ap (λ (n : ℕ). not (n == 0)) null }

untagged_is : (e : Edge) → IsEdge e → IsEdge (untagged e)
untagged_is e is = record { flag = is.flag; tag = λ _. refl }

flag_to_is : (s : ℕ) → 6 ≤ s → IsEdge (flag_to s)
flag_to_is s some = record { flag = λ null. absurd (let q : s ≡ 0 = null in omega (arith, q, some)); tag = λ _. refl }

module _ (s : State) (k : IsLawful s) (all : Unmarked s.memory) (w : ℕ) where
  -- the edge that a splice keeps was read with its tag, and so is that of the memory
  kept_is : (p : ℕ) (side : Side) (o : Option Edge) → read (of s w) p side ≡ o → IsEdge (kept o)
  kept_is p side None is = to_is 0
  kept_is p side (Some e) is = go e.tag refl
    where
      go : (b : Bool) → e.tag ≡ b → IsEdge (untagged e)
      go true tag = untagged_is e (subst IsEdge (k.law.tree.tag_read w p side e is tag) (all p side))
      go false tag = record { flag = λ null. flagless e.flag refl null; tag = λ _. refl }
        where
          flagless : (b : Bool) → e.flag ≡ b → e.slot ≡ 0 → e.flag ≡ false
          flagless false is_not null = is_not
          flagless true flag null = absurd (true≢false
              (sym (let f = k.law.tree.flag_read w p side e is flag in f.0)
              ∙ (all p side).flag ((let f = k.law.tree.flag_read w p side e is flag in f.1) ∙ null)))

  unmarked_step : (e : Event) → Allowed s w e → Unmarked (write s.memory (of s w) w e)
  unfolding refusal write
  unmarked_step e ok' = go e ok'.event
    where
      go : (e : Event) → refusal_of s w e ≡ None → Unmarked (write s.memory (of s w) w e)
      go Advance ok = cond_both (is_number (of s w).brief.seen s.memory.epoch)
          (record s.memory { epoch = s.memory.epoch + 1 }) s.memory Unmarked (λ _. all) (λ _. all)
      go (Fill x Key v) ok = node_unmarked s.memory x _ all
          (both (filled (node s.memory x) Key v) (all x Left) (all x Right))
      go (Fill x (EdgeOn side) v) ok = edge_unmarked s.memory x side _ all (to_is v)
      go (Fill x Birth v) ok = node_unmarked s.memory x _ all
          (both (filled (node s.memory x) Birth v) (all x Left) (all x Right))
      go (Link p side leaf new) ok = exchange_unmarked s.memory p side leaf _ all (to_is new)
      go (Flag p side leaf) ok = exchange_unmarked s.memory p side leaf _ all
          (flag_to_is leaf (ltb-false leaf 6 (or_parts (nat_lt leaf 6) (nat_lt s.layout.nodes leaf) outside_not).0))
        where
          outside_not : outside 6 s.layout.nodes leaf ≡ false
          outside_not = (or_parts (outside 1 s.layout.nodes p) (outside 6 s.layout.nodes leaf) (passed _ _ _ ok).0).1
      go (Tag p side) ok = edge_unmarked s.memory p side _ all (tagged_is (edge s.memory p side) (all p side))
      go (Splice a side x p keep) ok = exchange_unmarked s.memory a side x _ all
          (kept_is p keep (read (of s w) p keep) refl)
      go (Swap p side leaf new) ok = exchange_unmarked s.memory p side leaf _ all (to_is new)
      go Sight ok = all
      go (SightFor op key) ok = all
      go Announce ok = all
      go Leave ok = all
      go (LeaveWith answer) ok = all
      go (Scan u) ok = all
      go (Claim x) ok = all
      go (Give x) ok = all
      go (Look x f) ok = all
      go (Join v) ok = all

record IsLawfulAndUnmarked (s : State) : Type 0 where
  pub lawful : IsLawful s
  pub unmarked : Unmarked s.memory

keeps_unmarked : (s : State) (w : ℕ) (e : Event) → IsLawfulAndUnmarked s → Allowed s w e
    → IsLawfulAndUnmarked (applied s w e)
unfolding applied
keeps_unmarked s w e k ok = record {
  lawful = lawful_step s w e k.lawful ok;
  unmarked = unmarked_step s k.lawful
      k.unmarked w e ok;
}

unmarked_start : (L : Layout) → Unmarked (start L).memory
unmarked_start L = each_slot _ (both (node (start L).memory 0) (to_is 0) (to_is 0))
    (both (node (start L).memory 1) (to_is 2) (to_is 5)) (both (node (start L).memory 2) (to_is 3) (to_is 4))
    (both (node (start L).memory 3) (to_is 0) (to_is 0))
    (both (node (start L).memory 4) (to_is 0) (to_is 0)) (both (node (start L).memory 5) (to_is 0) (to_is 0))
    (λ x. subst Plain (sym (repeated (L.nodes - 5) x blank)) (both blank (to_is 0) (to_is 0)))

pub each_null_unmarked : OfEachState NullEdgesAreUnmarked
each_null_unmarked L enough turns = (by_steps IsLawfulAndUnmarked keeps_unmarked turns (start L)
    (record { lawful = lawful_start L enough; unmarked = unmarked_start L })).unmarked
