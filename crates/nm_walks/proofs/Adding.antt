-- What the parts of a call add to a log: how many won links, flags and splices, and at most how
-- many entries.
use Rattle.std.proofs.Common.{◌≡◌, ◌≤◌, inl, inr, ℕ, zero, suc, ◌+◌, ◌*◌, ◌-◌, Bool, List, [], ◌∷◌, ◌++◌, length, refl, ap, ◌∙◌, arith}
use Rattle.std.specs.Prelude.{filter, min, ◌^◌, Option, Some, None}
use Rattle.std.proofs.lemmas.List.{length-append}
use Rattle.std.proofs.lemmas.List.Elements.{filter-append}
use Rattle.nm_edge.specs.Layouts.{Layout}
use Rattle.nm_edge.specs.declared.edge.Side.{Side}
use Rattle.nm_edge.specs.declared.node.NodeId.{NodeId}
use Rattle.nm_model.specs.Walks.{Entry}
use Rattle.nm_order.specs.Exchanges.{is_won_link}
use Rattle.nm_order.specs.WalksToArrivals.{is_won_flag}
use Rattle.nm_walks.specs.declared.cutting.Kept.{Kept}
use Rattle.nm_walks.specs.declared.looking.Onward.{Onward}
use Rattle.nm_walks.specs.declared.seek_record.ChainEdge.{ChainEdge}
use Rattle.nm_walks.specs.declared.seek_record.SeekRecord.{SeekRecord}
use Rattle.nm_walks.specs.Bounds.{reach}
use Rattle.nm_walks.specs.Walks.{Reads, Walks, EndsAtLeaf}
use Rattle.nm_walks.specs.Cleanups.{Chooses, FreezesOne, Freezes, Prepares, CutsOff, CleanupLost}
use Rattle.nm_walks.specs.WonCounts.{is_won_splice, won_links, won_flags, won_splices, CountsWon}
use Rattle.nm_epoch.specs.Collecting.{capped}
use Rattle.nm_epoch.specs.declared.collecting.Tally.{Tally}

-- between a log and a later one so many links, flags and splices were won, in at most so many steps
pub record Adds (l f s n : ℕ) (old new : List Entry) : Type 0 where
  pub links : won_links new ≡ won_links old + l
  pub flags : won_flags new ≡ won_flags old + f
  pub splices : won_splices new ≡ won_splices old + s
  pub steps : length new ≤ length old + n

how_many : (p : Entry → Bool) (old more new : List Entry) → new ≡ old ++ more
    → length (filter p new) ≡ length (filter p old) + length (filter p more)
how_many p old more new is = ap (λ (log : List Entry). length (filter p log)) is
    ∙ (ap (λ (log : List Entry). length log) (filter-append p old more) ∙ length-append (filter p old) (filter p more))

pub adds_these : (more old new : List Entry) → new ≡ old ++ more
    → Adds (won_links more) (won_flags more) (won_splices more) (length more) old new
adds_these more old new is =
    let d : length new ≡ length old + length more = ap (λ (log : List Entry). length log) is ∙ length-append old more in
    record {
      links = how_many is_won_link old more new is;
      flags = how_many is_won_flag old more new is;
      splices = how_many is_won_splice old more new is;
      steps = omega (arith, d);
    }

pub adds_then : {l f s n m g t k : ℕ} (old mid new : List Entry) → Adds l f s n old mid → Adds m g t k mid new
    → Adds (l + m) (f + g) (s + t) (n + k) old new
adds_then {l} {f} {s} {n} {m} {g} {t} {k} old mid new a b =
    let la = a.links in
    let lb = b.links in
    let fa = a.flags in
    let fb = b.flags in
    let sa = a.splices in
    let sb = b.splices in
    let na = a.steps in
    let nb = b.steps in
    record {
      links = omega (arith, la, lb);
      flags = omega (arith, fa, fb);
      splices = omega (arith, sa, sb);
      steps =
          omega (arith, na, nb);
    }

-- in more steps
pub adds_in : {l f s n : ℕ} (m : ℕ) (old new : List Entry) → n ≤ m → Adds l f s n old new → Adds l f s m old new
adds_in m old new le a = let steps = a.steps in
    record { links = a.links; flags = a.flags; splices = a.splices; steps = omega (arith, le, steps) }

-- what is counted stays right where nothing was won
pub counted_still : (count was is : ℕ) → is ≡ was + 0 → count ≡ capped was → count ≡ capped is
counted_still count was is same old = omega (arith, same, old)

pub counts_on : {n : ℕ} (t : Tally) (old new : List Entry) → Adds 0 0 0 n old new → CountsWon old t → CountsWon new t
counts_on t old new a is = record {
  links = counted_still t.links (won_links old) (won_links new) a.links is.links;
  flags = counted_still t.flags (won_flags old) (won_flags new) a.flags is.flags;
  splices = counted_still t.splices (won_splices old) (won_splices new) a.splices is.splices;
}

-- and goes up by one where a link, a flag or a splice was won
pub counted_more : (count more was is : ℕ) → more ≡ min (count + 1) (2 ^ 64 - 1) → is ≡ was + 1 → count ≡ capped was
    → more ≡ capped is
counted_more count more was is sum one old = omega (arith, sum, one, old)

pub splice_counts : {n : ℕ} (t : Tally) (more : ℕ) (old new : List Entry) → Adds 0 0 1 n old new
    → more ≡ min (t.splices + 1) (2 ^ 64 - 1) → CountsWon old t → CountsWon new (record t { splices = more })
splice_counts t more old new a sum is = record {
  links = counted_still t.links (won_links old) (won_links new) a.links is.links;
  flags = counted_still t.flags (won_flags old) (won_flags new) a.flags is.flags;
  splices = counted_more t.splices more (won_splices old) (won_splices new) sum a.splices is.splices;
}

-- ---- walks

pub reads_add : (k x : ℕ) (old new : List Entry) (on : Onward) → Reads k x old new on → Adds 0 0 0 3 old new
reads_add k x old new on r = adds_then old _ new (adds_these _ old _ refl)
    (adds_then _ _ new (adds_these _ _ _ refl) (adds_these _ _ new r.2))

pub walk_adds : (k n : ℕ) (old new : List Entry) (s : SeekRecord) (c : List ChainEdge) → Walks k n old new s c
    → Adds 0 0 0 (1 + 3 * n) old new
walk_adds k zero old new s c w = adds_these _ old new w.3
walk_adds k (suc n) old new s c w =
    adds_in (1 + 3 * suc n) old new (omega arith) (adds_then old w.0 new (walk_adds k n old w.0 w.1 w.2 w.4)
    (reads_add k w.1.edge.slot w.0 new w.3 w.6))

pub end_adds : (L : Layout) (k : ℕ) (old new : List Entry) (s : SeekRecord) (c : List ChainEdge) (key : ℕ)
    → EndsAtLeaf L k old new s c key → Adds 0 0 0 (3 * reach L) old new
end_adds L k old new s c key e =
    let few = e.3 in
    adds_in (3 * reach L) old new (omega (arith, few))
    (adds_then old e.1 new (walk_adds k e.0 old e.1 s c e.4) (reads_add k s.edge.slot e.1 new e.2 e.6))

-- ---- cleanups

pub choice_adds : (s : SeekRecord) (r : Option Kept) (old new : List Entry) → Chooses s old new r → Adds 0 0 0 2 old new
choice_adds s r old new h = adds_then old _ new (adds_these _ old _ refl) (adds_these _ _ new h.2)

one_adds : (slot : ℕ) (side : Side) (old new : List Entry) → FreezesOne slot side old new → Adds 0 0 0 3 old new
one_adds slot side old new h = adds_then old _ new (adds_these _ old _ refl)
    (adds_then _ _ new (adds_these _ _ _ refl) (adds_these _ _ new h.3))

chain_adds : (parent : ℕ) (keep : Side) (c : List ChainEdge) (old new : List Entry) → Freezes parent keep c old new
    → Adds 0 0 0 (3 * length c + 3) old new
chain_adds parent keep [] old new h = one_adds parent keep old new h
chain_adds parent keep (l ∷ c) old new h = adds_in (3 * suc (length c) + 3) old new (omega arith)
    (adds_then old h.0 new (one_adds l.slot l.side old h.0 h.1) (chain_adds parent keep c h.0 new h.2))

prepared_adds : (s : SeekRecord) (c : List ChainEdge) (k : Kept) (old new : List Entry) → Prepares s c k old new
    → Adds 0 0 0 (3 * length c + 6) old new
prepared_adds s c k old new h =
    adds_in (3 * length c + 6) old new (omega arith)
    (adds_then old h.0 new (choice_adds s (Some k) old h.0 h.2)
    (adds_then h.0 _ new (adds_these _ h.0 _ refl) (chain_adds s.parent k.side c _ new h.3)))

pub cut_adds : (s : SeekRecord) (c : List ChainEdge) (ns : List NodeId) (old new : List Entry)
    → CutsOff s c ns old new → Adds 0 0 1 (3 * length c + 7) old new
cut_adds s c ns old new h = adds_in (3 * length c + 7) old new (omega arith)
    (adds_then old h.1 new (prepared_adds s c h.0 old h.1 h.2) (adds_these _ h.1 new h.3))

pub not_cleaned_adds : (s : SeekRecord) (c : List ChainEdge) (old new : List Entry) → CleanupLost s c old new
    → Adds 0 0 0 (3 * length c + 8) old new
not_cleaned_adds s c old new (inl none') = adds_in (3 * length c + 8) old new (omega arith)
    (choice_adds s None old new none')
not_cleaned_adds s c old new (inr h) = adds_in (3 * length c + 8) old new (omega arith)
    (adds_then old h.1 new (prepared_adds s c h.0 old h.1 h.3) (adds_these _ h.1 new h.4))
