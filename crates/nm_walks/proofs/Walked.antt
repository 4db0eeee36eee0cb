-- A walk goes on from where it stands, or ends there.
use Rattle.std.proofs.Common.{◌≡◌, ◌≢◌, ◌≤◌, ◌<◌, ◌+◌, ℕ, Bool, false, List, [], ◌∷◌, ◌++◌, refl, ap, cond, length}
use Rattle.std.specs.Prelude.{Some}
use Rattle.nm_edge.specs.Layouts.{Layout}
use Rattle.nm_steps.specs.Steps.{PassView}
use Rattle.nm_walks.specs.declared.looking.Onward.{Onward}
use Rattle.nm_walks.specs.declared.seek_record.ChainEdge.{ChainEdge}
use Rattle.nm_walks.specs.declared.seek_record.WalkEnd.{WalkEnd}
use Rattle.nm_walks.specs.declared.seek_record.SeekRecord.{SeekRecord}
use Rattle.nm_walks.specs.Bounds.{chain_bound, reach}
use Rattle.nm_walks.specs.Telling.{Tells, GoesOn, OnlyLooks, OnwardTold}
use Rattle.nm_walks.specs.Walks.{onto, chained, chain_onto, Reads, Finds, IsFinding, HasFound, IsWalking, HasWalked}
use Rattle.nm_walks.proofs.GoingOn.{goes_then, only_then, come_on, found_so}
use Rattle.nm_walks.proofs.Standing.{walk_on, at_kept, at_onto}

-- ---- a walk that remembers nothing

module _ (L : Layout) (k n : ℕ) (o p q : PassView) (t : SeekRecord) (on : Onward) (w : IsFinding k n o p t)
    (read : Reads k t.edge.slot p.view.log q.view.log on)
    (told : OnwardTold p q k t.edge.slot on.found on.side on.next) where
  -- to the next node
  pub finds_on : on.next.slot ≢ 0 → (s : SeekRecord) → s ≡ onto t on.side on.next → s.edge ≡ on.next
      → IsFinding k (n + 1) o q s
  finds_on some s is edge = record {
    walk = (_, walk_on k n o.view.log p.view.log q.view.log t s w.walk.0 on w.walk.1 read is some);
    known = rw edge (told.learned.leads some);
    come = come_on o p q k on.found t s on.side on.next w.come told some is;
  }

  -- at a leaf
  pub finds_out : on.next.slot ≡ 0 → n + 2 ≤ reach L
      → Finds L k o.view.log q.view.log (Some on.found) × HasFound o q k t.edge.slot t.parent t.side on.found
  finds_out null few = (
    (t, w.walk.0, (n, p.view.log, on, few, w.walk.1, null, read, refl)),
    found_so o p q k
        on.found t on.side on.next w.come told null,
  )

-- ---- a walk that remembers its chain

-- by an untagged edge the chain is empty behind it
pub no_chain : (t : SeekRecord) (c : List ChainEdge) → t.edge.tag ≡ false → chain_onto t c ≡ []
no_chain t c plain = ap (λ (b : Bool). cond b (c ++ chained t.parent t.side ∷ []) []) plain

module _ (L : Layout) (k n : ℕ) (o p q : PassView) (t : SeekRecord) (c : List ChainEdge) (on : Onward)
    (w : IsWalking L k n o p t c) (read : Reads k t.edge.slot p.view.log q.view.log on) (goes : GoesOn p q)
    (only : OnlyLooks p q) (told : OnwardTold p q k t.edge.slot on.found on.side on.next) where
  -- to the next node
  pub walks_on : on.next.slot ≢ 0 → on.next.slot ≤ L.nodes → length (chain_onto t c) < chain_bound → (s : SeekRecord)
      → s ≡ onto t on.side on.next → s.edge ≡ on.next → IsWalking L k (n + 1) o q s (chain_onto t c)
  walks_on some within short s is edge = record {
    walk = walk_on k n o.view.log p.view.log q.view.log t s c on w.walk read is some;
    at = rw is (at_onto (Tells q) t c on.side on.next (at_kept (Tells p) (Tells q) goes.keeps t c w.at) told.learned
        some);
    within = rw edge within;
    short = short;
    on = goes_then o p q w.on goes;
    only = only_then o p q w.only only;
    come = come_on o p q k on.found t s on.side on.next w.come told some is;
  }

  -- at a leaf
  pub walks_out : on.next.slot ≡ 0 → n + 2 ≤ reach L → (r : WalkEnd) → r.seek_record ≡ t → r.key ≡ on.found
      → HasWalked L k o q c r
  walks_out null few r seek_record key = rw (seek_record, key) (record {
    walk = (n, p.view.log, on, few, w.walk, null, read, refl);
    ended = record {
      at = at_kept (Tells p) (Tells q) goes.keeps t c w.at;
      leaf = told.learned.leaf null;
      within =
          w.within;
    };
    few = w.short;
    high = told.high;
    found = found_so o p q k on.found t on.side on.next w.come told null;
  })
