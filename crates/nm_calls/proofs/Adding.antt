-- What the parts of a call add to a log: how many won links, flags and splices, and at most how
-- many entries.
use Rattle.std.proofs.Common.{◌≡◌, ◌≤◌, ◌<◌, inl, inr, ℕ, zero, suc, ◌+◌, ◌*◌, ◌-◌, Bool, false, cond, List, [], ◌∷◌, length, refl, ap, arith}
use Rattle.std.specs.Prelude.{min, ◌^◌, Option, Some, None}
use Rattle.std.proofs.Math.Nat.{suc-mul, mul-add, mul-le-mul_left, mul-le-mul_right}
use Rattle.nm_edge.specs.Layouts.{Layout}
use Rattle.nm_edge.specs.declared.node.NodeId.{NodeId}
use Rattle.nm_model.specs.declared.event.Op.{Op}
use Rattle.nm_model.specs.declared.event.Event.{Event}
use Rattle.nm_model.specs.declared.event.Event.TheVariants.{Sight, SightFor}
use Rattle.nm_model.specs.Walks.{Entry}
use Rattle.nm_epoch.specs.Tries.{LostTry, WonTry, LostTries, IsPinnedBy, IsMoved}
use Rattle.nm_pool.specs.Claims.{DoneInTurn, DoneAt, PassedOver, PassedWithin, IsClaim, IsClaimBy}
use Rattle.nm_edge.specs.declared.placement.Fit.{Fit}
use Rattle.nm_edge.specs.declared.placement.Fit.TheVariants as fit
use Rattle.nm_walks.specs.declared.seek_record.ChainEdge.{ChainEdge}
use Rattle.nm_walks.specs.declared.seek_record.WalkEnd.{WalkEnd}
use Rattle.nm_walks.specs.declared.seek_record.SeekRecord.{SeekRecord}
use Rattle.nm_walks.specs.Bounds.{chain_bound, reach}
use Rattle.nm_walks.specs.Places.{Stops, StopsAt}
use Rattle.nm_walks.specs.Walks.{IsTooLong, IsBroken, Seeks, Finds}
use Rattle.nm_calls.specs.Calls.{LostWalks}
use Rattle.nm_walks.specs.Cleanups.{CleanupWon}
use Rattle.nm_walks.specs.WonCounts.{won_links, won_flags, won_splices, CountsWon}
use Rattle.nm_calls.specs.Won.{HasWon}
use Rattle.nm_epoch.specs.declared.collecting.Tally.{Tally}
use Rattle.nm_walks.proofs.Adding.{Adds, adds_in, adds_then, adds_these, counted_more, counted_still, cut_adds, end_adds, reads_add, walk_adds}

pub adds_none : (old new : List Entry) → new ≡ old → Adds 0 0 0 0 old new
adds_none old new is =
    let a : won_links new ≡ won_links old = ap won_links is in
    let b : won_flags new ≡ won_flags old = ap won_flags is in
    let c : won_splices new ≡ won_splices old = ap won_splices is in
    let d : length new ≡ length old = ap (λ (log : List Entry). length log) is in
    record { links = omega (arith, a); flags = omega (arith, b); splices = omega (arith, c); steps = omega (arith, d) }

-- the same behind a part that won neither a link nor a flag
pub adds_after : {l f s n t k : ℕ} (old mid new : List Entry) → Adds 0 0 s n old mid → Adds l f t k mid new
    → Adds l f (s + t) (n + k) old new
adds_after {l} {f} {s} {n} {t} {k} old mid new a b =
    let la = a.links in
    let lb = b.links in
    let fa = a.flags in
    let fb = b.flags in
    let sa = a.splices in
    let sb = b.splices in
    let na = a.steps in
    let nb = b.steps in
    record {
      links = omega (arith, la, lb);
      flags = omega (arith, fa, fb);
      splices = omega (arith, sa, sb);
      steps =
          omega (arith, na, nb);
    }

pub has_won : {l f s n : ℕ} (old new : List Entry) → Adds l f s n old new → HasWon old new l f
has_won old new a = record { links = a.links; flags = a.flags }

pub cuts_none : {l f n : ℕ} (old new : List Entry) → Adds l f 0 n old new → won_splices new ≡ won_splices old
cuts_none old new a = let s = a.splices in omega (arith, s)

pub link_counts : {n : ℕ} (t : Tally) (more : ℕ) (old new : List Entry) → Adds 1 0 0 n old new
    → more ≡ min (t.links + 1) (2 ^ 64 - 1) → CountsWon old t → CountsWon new (record t { links = more })
link_counts t more old new a sum is = record {
  links = counted_more t.links more (won_links old) (won_links new) sum a.links is.links;
  flags = counted_still t.flags (won_flags old) (won_flags new) a.flags is.flags;
  splices = counted_still t.splices (won_splices old) (won_splices new) a.splices is.splices;
}

pub flag_counts : {n : ℕ} (t : Tally) (more : ℕ) (old new : List Entry) → Adds 0 1 0 n old new
    → more ≡ min (t.flags + 1) (2 ^ 64 - 1) → CountsWon old t → CountsWon new (record t { flags = more })
flag_counts t more old new a sum is = record {
  links = counted_still t.links (won_links old) (won_links new) a.links is.links;
  flags = counted_more t.flags more (won_flags old) (won_flags new) sum a.flags is.flags;
  splices = counted_still t.splices (won_splices old) (won_splices new) a.splices is.splices;
}

-- ---- products

pub mul_below : (s t n : ℕ) → s < t → s * n + n ≤ t * n
mul_below s t n lt = let one = suc-mul s n in let all = mul-le-mul_right n lt in omega (arith, one, all)

-- the steps of a try, those of walks and exchanges and of one cleanup
abbrev pub most : ℕ → ℕ
most nodes = 3 * nodes + 204

-- a call stays within its bound, and one that claims too
pub within_call : (L : Layout) (tries a b m : ℕ) → b ≤ a + m → m ≤ tries * most (reach L) + 2 * tries + 10
    → b ≤ a + tries * (4 * reach L + 8 * chain_bound) + 10
within_call L tries a b m le few =
    let two = mul-add tries (most (reach L)) 2 in
    let all = mul-le-mul_left tries (let le : most (reach L) + 2 ≤ 4 * reach L + 8 * chain_bound = omega arith in le) in
    omega (arith, two, all, le, few)

pub within_claims : (L : Layout) (tries a b m : ℕ) → b ≤ a + m
    → m ≤ tries * most (reach L) + 2 * tries + 6 * L.nodes + 10
    → b ≤ a + tries * (4 * reach L + 8 * chain_bound) + 6 * L.nodes + 10
within_claims L tries a b m le few =
    let two = mul-add tries (most (reach L)) 2 in
    let all = mul-le-mul_left tries (let le : most (reach L) + 2 ≤ 4 * reach L + 8 * chain_bound = omega arith in le) in
    omega (arith, two, all, le, few)

-- ---- walks

-- the reach of a walk that is broken off
far_as : (L : Layout) → L.radix ≡ false → reach L ≡ L.nodes
far_as L plain = ap (λ (b : Bool). cond b 66 L.nodes) plain

pub long_adds : (L : Layout) (k : ℕ) (old new : List Entry) → IsTooLong L k old new → Adds 0 0 0 (3 * reach L) old new
long_adds L k old new e = let all = e.5 in let far = far_as L e.0 in
    adds_in (3 * reach L) old new (omega (arith, all, far)) (walk_adds k e.1 old new e.2 e.3 e.4)

pub broken_adds : (L : Layout) (k : ℕ) (old new : List Entry) → IsBroken L k old new → Adds 0 0 0 (3 * reach L) old new
broken_adds L k old new (inl long) = long_adds L k old new long
broken_adds L k old new (inr e) =
    let few = e.6 in
    let far = far_as L e.0 in
    adds_in (3 * reach L) old new (omega (arith, few, far))
    (adds_then old e.2 new (walk_adds k e.1 old e.2 e.3 e.4 e.7) (reads_add k e.3.edge.slot e.2 new e.5 e.8))

pub finds_adds : (L : Layout) (k : ℕ) (old new : List Entry) (r : Option ℕ) → Finds L k old new r
    → Adds 0 0 0 (3 * reach L) old new
finds_adds L k old new None h = long_adds L k old new h
finds_adds L k old new (Some key) h = end_adds L k old new h.0 h.1 key h.2

pub seeks_adds : (L : Layout) (k : ℕ) (old new : List Entry) (c : List ChainEdge) (r : Option WalkEnd)
    → Seeks L k old new c r → Adds 0 0 0 (3 * reach L) old new
seeks_adds L k old new c None h = broken_adds L k old new h
seeks_adds L k old new c (Some r) h = end_adds L k old new r.seek_record c r.key h.0

stop_adds : (L : Layout) (k : ℕ) (old new : List Entry) (s : SeekRecord) (c : List ChainEdge) (key : ℕ)
    → StopsAt L k old new s c key → Adds 0 0 0 (3 * reach L) old new
stop_adds L k old new s c key e =
    let few = e.3 in
    adds_in (3 * reach L) old new (omega (arith, few))
    (adds_then old e.1 new (walk_adds k e.0 old e.1 s c e.4) (reads_add k s.edge.slot e.1 new e.2 e.6))

pub stops_adds : (L : Layout) (k : ℕ) (old new : List Entry) (c : List ChainEdge) (r : Option WalkEnd)
    → Stops L k old new c r → Adds 0 0 0 (3 * reach L) old new
stops_adds L k old new c None h = broken_adds L k old new h
stops_adds L k old new c (Some r) h = stop_adds L k old new r.seek_record c r.key h.0

pub lost_walks_add : (L : Layout) (k t : ℕ) (old new : List Entry) → LostWalks L k t old new
    → Adds 0 0 0 (t * most (reach L)) old new
lost_walks_add L k zero old new h = adds_in _ old new (omega arith) (adds_none old new h)
lost_walks_add L k (suc t) old new h =
    let more = suc-mul t (most (reach L)) in
    adds_in _ old new (omega (arith, more)) (adds_then old h.0 new (lost_walks_add L k t old h.0 h.1)
    (long_adds L k h.0 new h.2))

-- ---- pins

-- a sight by which a pin is confirmed
data Confirms : Event → Type 0 where
  Plainly : Confirms Sight
  ForCall : (op : Op) (key : ℕ) → Confirms (SightFor op key)

lost_try_adds : {by : Event} → Confirms by → (old new : List Entry) → LostTry by old new → Adds 0 0 0 2 old new
lost_try_adds Plainly old new h = adds_then old _ new (adds_these _ old _ refl) (adds_these _ _ new h.2)
lost_try_adds (ForCall op key) old new h = adds_then old _ new (adds_these _ old _ refl) (adds_these _ _ new h.2)

won_try_adds : {by : Event} → Confirms by → (e : ℕ) (old new : List Entry) → WonTry by e old new → Adds 0 0 0 2 old new
won_try_adds Plainly e old new h = adds_then old _ new (adds_these _ old _ refl) (adds_these _ _ new h.1)
won_try_adds (ForCall op key) e old new h = adds_then old _ new (adds_these _ old _ refl) (adds_these _ _ new h.1)

lost_tries_add : {by : Event} → Confirms by → (n : ℕ) (old new : List Entry) → LostTries by n old new
    → Adds 0 0 0 (2 * n) old new
lost_tries_add by zero old new h = adds_none old new h
lost_tries_add by (suc n) old new h =
    adds_in (2 * suc n) old new (omega arith) (adds_then old h.0 new (lost_tries_add by n old h.0 h.1)
    (lost_try_adds by h.0 new h.2))

pin_adds_by : {by : Event} → Confirms by → (tries : ℕ) (old new : List Entry) (e : ℕ) → IsPinnedBy by tries old new e
    → Adds 0 0 0 (2 * tries + 1) old new
pin_adds_by by tries old new e h =
    let few = h.3 in
    let first = adds_these _ old _ refl in
    let lost = lost_tries_add by h.1 _ h.2 h.4 in
    adds_in (2 * tries + 1) old new (omega (arith, few))
    (adds_then old _ new first (adds_then _ h.2 new lost (won_try_adds by e h.2 new h.5)))

moved_adds_by : {by : Event} → Confirms by → (tries : ℕ) (old new : List Entry) → IsMoved by tries old new
    → Adds 0 0 0 (2 * tries + 2) old new
moved_adds_by by zero old new h = adds_in 2 old new (omega arith) (adds_these _ old new h.1)
moved_adds_by by (suc n) old new h =
    let first = adds_these _ old _ refl in
    let lost = lost_tries_add by (suc n) _ h.1 h.2 in
    adds_in (2 * suc n + 2) old new (omega arith) (adds_then old _ new first
    (adds_then _ h.1 new lost (adds_these _ h.1 new h.3)))

pub pin_adds : (op : Op) (key tries : ℕ) (old new : List Entry) (e : ℕ)
    → IsPinnedBy (SightFor op key) tries old new e → Adds 0 0 0 (2 * tries + 1) old new
pin_adds op key tries old new e h = pin_adds_by (ForCall op key) tries old new e h

pub moved_adds : (op : Op) (key tries : ℕ) (old new : List Entry) → IsMoved (SightFor op key) tries old new
    → Adds 0 0 0 (2 * tries + 2) old new
moved_adds op key tries old new h = moved_adds_by (ForCall op key) tries old new h

-- of a pin for no call
pub plain_pin_adds : (tries : ℕ) (old new : List Entry) (e : ℕ) → IsPinnedBy Sight tries old new e
    → Adds 0 0 0 (2 * tries + 1) old new
plain_pin_adds tries old new e h = pin_adds_by Plainly tries old new e h

pub plain_moved_adds : (tries : ℕ) (old new : List Entry) → IsMoved Sight tries old new
    → Adds 0 0 0 (2 * tries + 2) old new
plain_moved_adds tries old new h = moved_adds_by Plainly tries old new h

-- ---- claims

passed_adds : (s : ℕ) (old new : List Entry) → PassedOver s old new → Adds 0 0 0 3 old new
passed_adds s old new (inl taken) = adds_in 3 old new (omega arith) (adds_these _ old new taken)
passed_adds s old new (inr exhausted) = adds_these _ old new exhausted

passed_all : (from n : ℕ) (old new : List Entry) → DoneInTurn PassedOver from n old new → Adds 0 0 0 (3 * n) old new
passed_all from zero old new h = adds_none old new h
passed_all from (suc n) old new h = adds_in (3 * suc n) old new (omega arith)
    (adds_then old h.0 new (passed_all from n old h.0 h.1) (passed_adds (from + n) h.0 new h.2))

claim_adds : (nodes : ℕ) (old new : List Entry) (r : Option NodeId) → IsClaim nodes old new r
    → Adds 0 0 0 (3 * nodes) old new
claim_adds nodes old new (Some n) h =
    let least = h.least in
    let most = h.most in
    adds_in (3 * nodes) old new (omega (arith, least, most))
    (adds_then old h.before new (passed_all 6 (n.slot - 6) old h.before h.passed)
    (adds_these _ h.before new h.made.entries))
claim_adds nodes old new None h = adds_in (3 * nodes) old new (omega arith) (passed_all 6 (nodes + 1 - 6) old new h)

passed_at : (nodes : ℕ) (slots : List ℕ) (old new : List Entry) → DoneAt (PassedWithin nodes) slots old new
    → Adds 0 0 0 (3 * length slots) old new
passed_at nodes [] old new h = adds_none old new h
passed_at nodes (s ∷ slots) old new h = adds_in (3 * suc (length slots)) old new (omega arith)
    (adds_then old h.0 new (passed_at nodes slots old h.0 h.1) (passed_adds s h.0 new h.2.2))

pub claim_by_adds : (f : Fit) (nodes : ℕ) (old new : List Entry) (r : Option NodeId) → IsClaimBy f nodes old new r
    → Adds 0 0 0 (3 * nodes) old new
claim_by_adds fit.FirstFit nodes old new r h = claim_adds nodes old new r h
claim_by_adds fit.NextFit nodes old new (Some n) h =
    let few = h.few in
    adds_in (3 * nodes) old new (omega (arith, few))
    (adds_then old h.before new (passed_at nodes h.slots old h.before h.passed)
    (adds_these _ h.before new h.made.entries))
claim_by_adds fit.NextFit nodes old new None h = let few = h.few in
    adds_in (3 * nodes) old new (omega (arith, few)) (passed_at nodes h.slots old new h.passed)

-- ---- cleanups

pub cleaned_adds : (s : SeekRecord) (c : List ChainEdge) (ns : List NodeId) (epoch : ℕ) (old new : List Entry)
    → CleanupWon s c ns epoch old new → Adds 0 0 1 (3 * length c + 8) old new
cleaned_adds s c ns epoch old new h = adds_in (3 * length c + 8) old new (omega arith)
    (adds_then old h.0 new (cut_adds s c ns old h.0 h.1) (adds_these _ h.0 new h.2))
