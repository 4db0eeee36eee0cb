-- Look-ups of the values of several keys: their walks, and the values that were read at the leaves.
use Rattle.std.proofs.Common.{◌≡◌, ◌<◌, ◌+◌, ℕ, Bool, true, false, cond, List, drop, length, set, refl, sym, subst, arith}
use Rattle.std.specs.Prelude.{All, None, Some, slice_index_or}
use Rattle.std.specs.List.{AllWithin}
use Rattle.std.proofs.lemmas.List.{get_or-set_other}
use Rattle.std.proofs.lemmas.List.Elements.{AllWithin-more_set}
use Rattle.nm_edge.specs.Keys.{IsKey}
use Rattle.nm_edge.specs.Layouts.{IsLayout}
use Rattle.nm_steps.specs.Steps.{HasSeen, HasSeenAllOf, IsSamePass, PassView}
use Rattle.nm_model.specs.Walks.{Entry}
use Rattle.nm_walks.specs.AddedLooks.{AddsLooks}
use Rattle.nm_calls.specs.declared.many.Query.{Query}
use Rattle.nm_calls.specs.declared.scan_plan.What.TheVariants.{Entries}
use Rattle.nm_calls.specs.InTurns.{IsUnderWay}
use Rattle.nm_calls.specs.Maps.{HasReadLater, MapGaveUnderPin}
use Rattle.nm_calls.specs.PlainWalks.{HasEndedSo, after_entries}
use Rattle.nm_calls.specs.ValuesInTurns.{HasAnswer, HasWalked, answer_of}
use Rattle.nm_calls.proofs.MapMoments.{mapped_under_pin}
use Rattle.nm_calls.proofs.PlainLooks.{ended_at_in_all, ended_at_still, ended_in_all, ended_still, no_looks}

-- ---- the walks have ended

pub all_walked : (n : ℕ) (p : PassView) (xs : List Query) → All (IsUnderWay Entries n 0 p) xs
    → All (λ x. x.node ≡ 0) xs → All (HasWalked n p) xs
all_walked n p xs all ended i d below =
    let u = all i d below in
    let null = ended i d below in
    record { is_key = u.is_key; ends = u.ends null; leaf = u.leaf refl null }

-- a walk whose looks came after some entries is one of the whole log
pub all_walked_in_all : (n : ℕ) (p : PassView) (xs : List Query) → All (HasWalked n p) xs → All (HasWalked 0 p) xs
all_walked_in_all n p xs all i d below =
    let w = all i d below in
    let x = slice_index_or xs i d in
    record {
      is_key = w.is_key;
      ends = ended_in_all n p x.key x.found w.ends;
      leaf = λ found. ended_at_in_all n p x.key x.value (w.leaf found);
    }

-- ---- the values are read one after the other, by no step

module _ (p q : PassView) (log : q.view.log ≡ p.view.log) (n : ℕ) where
  looks : AddsLooks 0 (after_entries n p).view.log (after_entries n q).view.log
  looks = subst (λ (l : List Entry). AddsLooks 0 (drop n p.view.log) (drop n l)) (sym log)
      (no_looks (drop n p.view.log))

  pub so_still : (k : ℕ) (answer : Bool) → HasEndedSo (after_entries n p) k answer
      → HasEndedSo (after_entries n q) k answer
  so_still k answer ends = ended_still (after_entries n p) (after_entries n q) looks k answer ends

  walked_still : (x : Query) → HasWalked n p x → HasWalked n q x
  walked_still x w = record {
    is_key = w.is_key;
    ends = so_still x.key x.found w.ends;
    leaf = λ found. ended_at_still (after_entries n p) (after_entries n q) looks x.key x.value (w.leaf found);
  }

  pub unread_still : (xs : List Query) (i most : ℕ) (x : Query) → AllWithin (HasWalked n p) xs i most
      → AllWithin (HasWalked n q) (set xs i x) (i + 1) most
  unread_still xs i most x rest k d low less =
      subst (HasWalked n q) (sym (get_or-set_other xs i k x d (λ same. omega (arith, same, low))))
      (walked_still (slice_index_or xs k d) (rest k d (omega (arith, low)) less))

  module _ (stays : (k v : ℕ) → IsKey k → HasReadLater n p k v → HasReadLater n q k v) where
    answer_still : (x : Query) → HasAnswer n p x → HasAnswer n q x
    answer_still x a = record {
      is_key = a.is_key;
      ends = so_still x.key x.found a.ends;
      read = λ found. stays x.key
          x.value a.is_key (a.read found);
    }

    pub read_more : (xs : List Query) (i : ℕ) → i < length xs → (x : Query) → HasAnswer n q x
        → AllWithin (HasAnswer n p) xs 0 i → AllWithin (HasAnswer n q) (set xs i x) 0 (i + 1)
    read_more xs i below x a so_far =
        AllWithin-more_set xs i x below (HasAnswer n q)
        (λ k d low less. answer_still (slice_index_or xs k d) (so_far k d low less)) a

-- ---- each answer was right at a moment of the call

module _ (o q : PassView) (first_seen : HasSeen o.view) (fits : IsLayout q.view.layout) (same : IsSamePass o q)
    (since : HasSeenAllOf q o) (seen : HasSeen q.view) where
  was_mapped : (x : Query) → HasAnswer (length o.view.log) q x → MapGaveUnderPin o q x.key (answer_of x)
  was_mapped x a = by x.found refl
    where
      gives : (b : Bool) → x.found ≡ b → MapGaveUnderPin o q x.key (cond b (Some x.value) None)
          → MapGaveUnderPin o q x.key (answer_of x)
      gives b is so = subst (λ (c : Bool). MapGaveUnderPin o q x.key (cond c (Some x.value) None)) (sym is) so

      by : (b : Bool) → x.found ≡ b → MapGaveUnderPin o q x.key (answer_of x)
      by true found = gives true found
          (mapped_under_pin o q first_seen fits same since x.key a.is_key seen (Some x.value) (a.read found))
      by false none' = gives false none' (mapped_under_pin o q first_seen fits same since x.key a.is_key seen None
          (subst (HasEndedSo (after_entries (length o.view.log) q) x.key) none' a.ends))

  pub were_mapped : (xs : List Query) → All (HasAnswer (length o.view.log) q) xs
      → All (λ x. MapGaveUnderPin o q x.key (answer_of x)) xs
  were_mapped xs all i d below = was_mapped (slice_index_or xs i d) (all i d below)
