-- A worker of a map frees nodes by its collections alone.
use Rattle.std.proofs.Common.{◌≡◌, ◌∙◌, inl, inr, ℕ, zero, suc, Bool, length, List, [], ◌∷◌, ◌++◌, append-nil, append_assoc, refl, sym, ap}
use Rattle.std.specs.Prelude.{map, nat_lt, take, Option, Some, Result}
use Rattle.nm_edge.specs.Layouts.{Layout}
use Rattle.nm_edge.specs.declared.node.NodeId.{NodeId}
use Rattle.nm_model.specs.declared.event.Op.{Op}
use Rattle.nm_model.specs.declared.event.Op.TheVariants.{Delete, Insert}
use Rattle.nm_model.specs.Step.{last_number}
use Rattle.nm_model.specs.Walks.{Entry as LogEntry}
use Rattle.nm_epoch.specs.declared.collecting.Entry.{Entry}
use Rattle.nm_epoch.specs.Collecting.{freeing}
use Rattle.nm_epoch.specs.declared.answers.Advance.{Advance}
use Rattle.nm_epoch.specs.declared.answers.Advance.TheVariants as advance
use Rattle.nm_epoch.specs.declared.handing.HandedOut.{HandedOut}
use Rattle.nm_epoch.specs.Scans.{AllLetPass, IsAdvance, IsSightOf, LooksAt, SightThenScans}
use Rattle.nm_steps.specs.Steps.{TreeView}
use Rattle.nm_calls.specs.declared.fault.CallFault.{CallFault}
use Rattle.nm_tree.specs.Answers.{FreesNone, freed_in}
use Rattle.nm_tree.specs.Workers.{WorkerView}
use Rattle.nm_tree.proofs.Unfreed.{freed-append}
use Rattle.nm_set.specs.declared.managed.Options.{Options}
use Rattle.nm_set.specs.Maps.{LeavesReclaim, SaysChange}
use Rattle.nm_callers.specs.Lives.{Collection, FreesByCollections, HandsOutAll, freed_by_each}

-- what a collection adds to its log
freed_so : (es : List Entry) → freed_in (map freeing es) ≡ map (λ (e : Entry). e.node) es
freed_so [] = refl
freed_so (e ∷ es) = ap (λ (ns : List NodeId). e.node ∷ ns) (freed_so es)

seen_first : (epoch : ℕ) (old mid : List LogEntry) → IsSightOf epoch old mid → freed_in mid ≡ freed_in old
seen_first epoch old mid (r, told, is) = ap freed_in is ∙ (freed-append old _ ∙ append-nil (freed_in old))

collected : (c : Collection) → freed_in c.after.pass.view.log
    ≡ freed_in c.before.pass.view.log ++ map (λ (e : Entry). e.node) c.leaves.freed
collected c =
    let did = c.leaves.did in
    ap freed_in did.2
    ∙ (freed-append did.0 (map freeing c.leaves.freed)
    ∙ (ap (λ (ns : List NodeId). ns ++ freed_in (map freeing c.leaves.freed))
    (seen_first c.told.epoch c.before.pass.view.log did.0 did.1)
    ∙ ap (λ (ns : List NodeId). freed_in c.before.pass.view.log ++ ns) (freed_so c.leaves.freed)))

pub frees_by_collections : FreesByCollections
frees_by_collections [] w z none = none ∙ sym (append-nil (freed_in w.pass.view.log))
frees_by_collections (c ∷ cs) w z (none, rest) =
    frees_by_collections cs c.after z rest
    ∙ (ap (λ (ns : List NodeId). ns ++ freed_by_each cs)
    (collected c ∙ ap (λ (ns : List NodeId). ns ++ map (λ (e : Entry). e.node) c.leaves.freed) none)
    ∙ append_assoc (freed_in w.pass.view.log) (map (λ (e : Entry). e.node) c.leaves.freed) (freed_by_each cs))

-- ---- an advance

scans_none : (me e n : ℕ) (pin : Option ℕ) (old new : List LogEntry) → AllLetPass me pin e n old new
    → freed_in new ≡ freed_in old
scans_none me e zero pin old new is = ap freed_in is
scans_none me e (suc n) pin old new (mid, found, rest, looks, passes) = by looks ∙ scans_none me e n pin old mid rest
  where
    by : LooksAt me pin n found mid new → freed_in new ≡ freed_in mid
    by (inl (own, at, is)) = ap freed_in is
    by (inr (other, is)) = ap freed_in is ∙ (freed-append mid _ ∙ append-nil (freed_in mid))

sight_none : (me e n : ℕ) (pin : Option ℕ) (old new : List LogEntry) → SightThenScans me pin e n old new
    → freed_in new ≡ freed_in old
sight_none me e n pin old new (mid, seen, scans) = scans_none me e n pin mid new scans ∙ seen_first e old mid seen

advance_none : (m me : ℕ) (pin : Option ℕ) (old new : List LogEntry) (a : Advance) → IsAdvance m me pin old new a
    → freed_in new ≡ freed_in old
advance_none m me pin old new (advance.Moved next) (e, mid, seen, at, is) = ap freed_in is
    ∙ (freed-append mid _ ∙ (append-nil (freed_in mid) ∙ sight_none me e m pin old mid seen))
advance_none m me pin old new (advance.Lost found) (e, mid, seen, at, is) = ap freed_in is
    ∙ (freed-append mid _ ∙ (append-nil (freed_in mid) ∙ sight_none me e m pin old mid seen))
advance_none m me pin old new (advance.Held w at) (e, mid, seen, below, other, looks) = by looks
    ∙ sight_none me e w pin old mid seen
  where
    by : LooksAt me pin w (Some at) mid new → freed_in new ≡ freed_in mid
    by (inl (own, at, is)) = ap freed_in is
    by (inr (other, is)) = ap freed_in is ∙ (freed-append mid _ ∙ append-nil (freed_in mid))
advance_none m me pin old new advance.Spent seen = sight_none me last_number m pin old new seen

-- ---- a managed insert or remove, and a reclaim

change_none : (op : Op) (b : TreeView) (h : Options) (k : ℕ) (w z : WorkerView) (r : Result Bool CallFault)
    → SaysChange op b h k w z r → FreesNone w z
change_none op b h k w z r (inl pinned) = ap (λ (v : WorkerView). freed_in v.pass.view.log) pinned.2
change_none op b h k w z r (inr did) = did.1.frees refl

pub hands_out_all : (b d : TreeView) (h : Options) (k j : ℕ) (L : Layout) (w x y z : WorkerView)
    (q r : Result Bool CallFault) (old new : List ℕ) (behind : Option ℕ) (told : HandedOut)
    → SaysChange Insert b h k w x q → SaysChange Delete d h j x y r → LeavesReclaim L old new y z behind told
    → HandsOutAll w z (take told.values new)
hands_out_all b d h k j L w x y z q r old new behind told put took l =
    let c : Collection = record {
      before = l.twice;
      after = z;
      nodes = L.nodes;
      room = nat_lt told.values
          (length new);
      values = take told.values new;
      told = told;
      leaves = l.hands.leaves;
    } in
    let first = advance_none L.workers y.pass.view.number _ y.pass.view.log l.once.pass.view.log l.first
    l.advanced.did in
    let second = advance_none L.workers l.once.pass.view.number _ l.once.pass.view.log l.twice.pass.view.log l.second
    l.again.did in
    let before : FreesNone w l.twice = second ∙ (first
    ∙ (change_none Delete d h j x y r took ∙ change_none Insert b h k w x q put)) in
    record {
      by = c;
      are = refl;
      all = collected c ∙ ap (λ (ns : List NodeId). ns ++ map (λ (e : Entry). e.node) l.hands.leaves.freed) before;
    }
