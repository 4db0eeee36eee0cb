-- Walks that go on in turns.
use Rattle.std.proofs.Common.{◌≡◌, ◌≢◌, ◌<◌, ◌≤◌, ◌+◌, ℕ, zero, suc, Bool, true, false, List, [], ◌∷◌, length, refl, sym, ap, subst, ◌∙◌, arith}
use Rattle.std.specs.Prelude.{map, slice_index_or, All, Contains}
use Rattle.std.specs.List.{AllWithin, HoldsAt}
use Rattle.std.proofs.Math.ListN.{get_or, set}
use Rattle.std.proofs.lemmas.Bool.{eqb-true}
use Rattle.std.proofs.lemmas.List.{length-map}
use Rattle.std.proofs.lemmas.List.Elements.{All-set, AllWithin-more_set}
use Rattle.nm_edge.specs.Edges.{Edge}
use Rattle.nm_edge.specs.Keys.{IsKey}
use Rattle.nm_edge.specs.Layouts.{Layout}
use Rattle.nm_edge.specs.declared.edge.Side.TheVariants.{Left}
use Rattle.nm_model.specs.declared.event.Event.TheVariants.{Look}
use Rattle.nm_model.specs.declared.event.Field.TheVariants.{Edge as EdgeOn}
use Rattle.nm_model.specs.declared.reply.Reply.TheVariants.{EdgeIs}
use Rattle.nm_model.specs.Walks.{Entry, WalkEnds, since_pin}
use Rattle.nm_order.specs.Facts.Fact.{KnowsSlot}
use Rattle.nm_order.proofs.RadixLaws.{walks_are_short}
use Rattle.nm_steps.specs.Steps.{TreeView, PassView, Stepped}
use Rattle.nm_walks.specs.declared.looking.Onward.{Onward}
use Rattle.nm_calls.specs.declared.many.Query.{Query}
use Rattle.nm_walks.specs.Bounds.{reach}
use Rattle.nm_calls.specs.declared.scan_plan.What.{What}
use Rattle.nm_calls.specs.declared.scan_plan.What.TheVariants.{Entries}
use Rattle.nm_calls.specs.InTurns.{GiveUp, HasBegun, IsUnderWay, key_of, query_read, slot_kept}
use Rattle.nm_walks.specs.AddedLooks.{AddsLooks}
use Rattle.nm_calls.specs.PlainWalks.{HasEndedAt, HasEndedSo, HasPassed, after_entries, most_looks}
use Rattle.nm_walks.specs.Telling.{Tells, GoesOn, EdgeTold, OnwardTold, IsPinnedIn}
use Rattle.nm_walks.specs.Walks.{Reads}
use Rattle.nm_walks.proofs.Looks.{enough}
use Rattle.nm_walks.proofs.ShortWalks.{far_of}
use Rattle.nm_calls.proofs.MapMoments.{ends_at}
use Rattle.nm_calls.proofs.PlainLooks.{come_still, ended_at_in_all, ended_at_still, ended_in_all, ended_still, comes_first_after, comes_on, ends_so, looks_after, passed_in_all, reads_after}

-- ---- they stay under way

module _ {n : ℕ} (what : What) (from : ℕ) (p q : PassView) (le : from ≤ length p.view.log)
    (a : AddsLooks n p.view.log q.view.log) where
  abbrev o : PassView
  o = after_entries from p

  abbrev z : PassView
  z = after_entries from q

  more : AddsLooks n (after_entries from p).view.log (after_entries from q).view.log
  more = looks_after from p.view.log q.view.log le a

  pub under_way_still : (m : ℕ) → GoesOn p q → (query : Query) → IsUnderWay what from m p query
      → IsUnderWay what from m q query
  under_way_still m on query u = record {
    is_key = u.is_key;
    comes = λ some. come_still o z more m query.key query.node (u.comes some);
    known = λ some. on.keeps (KnowsSlot query.node) (u.known some);
    ends = λ none'. ended_still o z more query.key query.found (u.ends none');
    leaf = λ values none' found. ended_at_still o z more query.key query.value (u.leaf values none' found);
  }

  pub all_still : (m : ℕ) → GoesOn p q → (queries : List Query) → All (IsUnderWay what from m p) queries
      → All (IsUnderWay what from m q) queries
  all_still m on queries all i d below = under_way_still m on _ (all i d below)

  pub within_still : (m to : ℕ) → GoesOn p q → (queries : List Query)
      → AllWithin (IsUnderWay what from m p) queries 0 to → AllWithin (IsUnderWay what from m q) queries 0 to
  within_still m to on queries all i d low high = under_way_still m on _ (all i d low high)

-- the walk at an index is taken a node further
module _ {m : ℕ} (what : What) (from : ℕ) (p q : PassView) (le : from ≤ length p.view.log)
    (a : AddsLooks m p.view.log q.view.log) (on : GoesOn p q) (queries : List Query) (i : ℕ)
    (below : i < length queries) (d y : Query)
    (turn : (n : ℕ) → IsUnderWay what from n p (get_or queries i d) → IsUnderWay what from (n + 1) q y) where
  taken : (n : ℕ) → All (IsUnderWay what from n p) queries → IsUnderWay what from (n + 1) q y
  taken n all = turn n (all i d below)

  -- so each has passed as many nodes as before, and those up to the index one more
  pub turned : (n : ℕ) → All (IsUnderWay what from n p) queries → All (IsUnderWay what from n q) (set queries i y)
  turned n all = All-set (IsUnderWay what from n q) queries i y (sooner (taken n all))
      (all_still what from p q le a n on queries all)
    where
      sooner : IsUnderWay what from (n + 1) q y → IsUnderWay what from n q y
      sooner u = record {
        is_key = u.is_key;
        comes = λ some. let h = u.comes some in
            (h.0, h.1, h.2, (let many = h.3 in omega (arith, many)));
        known = u.known;
        ends = u.ends;
        leaf = u.leaf;
      }

  pub turned_so_far : (n : ℕ) → All (IsUnderWay what from n p) queries
      → AllWithin (IsUnderWay what from (n + 1) p) queries 0 i
      → AllWithin (IsUnderWay what from (n + 1) q) (set queries i y) 0 (i + 1)
  turned_so_far n all so_far =
      AllWithin-more_set queries i y below (IsUnderWay what from (n + 1) q)
      (within_still what from p q le a (n + 1) i on queries so_far) (taken n all)

-- queries of the same keys are as many
pub same_count : (xs ys : List Query) → map key_of xs ≡ map key_of ys → length xs ≡ length ys
same_count xs ys same = sym (length-map xs key_of) ∙ (ap (λ (l : List ℕ). length l) same ∙ length-map ys key_of)

-- ---- a walk begins

pub begun_so : (what : What) (from : ℕ) (p q : PassView) → from ≤ length p.view.log → (e : Edge)
    → Stepped p q (Look 2 (EdgeOn Left)) (EdgeIs e) → EdgeTold p q 2 Left e → (queries : List Query)
    → All (HasBegun e.slot) queries → All (IsUnderWay what from 0 q) queries
begun_so what from p q le e step told queries all i d below = by (slice_index_or queries i d) (all i d below)
  where
    by : (query : Query) → HasBegun e.slot query → IsUnderWay what from 0 q query
    by query b = record {
      is_key = b.0;
      comes = λ some. subst (HasPassed 0 (after_entries from q).view.log query.key) (sym b.1)
          (comes_first_after from p q e step le (λ null. some (b.1 ∙ null)) query.key);
      known = λ some. subst (λ (x : ℕ). Tells q (KnowsSlot x)) (sym b.1)
          (told.learned.leads (λ null. some (b.1 ∙ null)));
      ends = λ null. absurd (told.root refl refl (sym b.1 ∙ null));
      leaf = λ values null. absurd (told.root refl refl (sym b.1 ∙ null));
    }

-- ---- and goes on

-- the leaf with the key is kept
leaf_kept : (what : What) (p q : PassView) (n : ℕ) (query : Query) (on : Onward)
    → Reads query.key query.node p.view.log q.view.log on → what ≡ Entries
    → HasPassed n p.view.log query.key query.node → on.next.slot ≡ 0 → on.found ≡ query.key
    → HasEndedAt q query.key (slot_kept what query)
leaf_kept what p q n query on r values came null same =
    subst (λ (w : What). HasEndedAt q query.key (slot_kept w query)) (sym values) (
      came.0,
      came.1,
      subst (λ (v : ℕ). WalkEnds query.key (since_pin [] q.view.log) query.node came.0 came.1 v) same
          (ends_at p q n query.key query.node on r came null),
    )

pub gone_on : (what : What) (from : ℕ) (p q : PassView) → from ≤ length p.view.log
    → (n : ℕ) (query : Query) (on : Onward) → Reads query.key query.node p.view.log q.view.log on
    → OnwardTold p q query.key query.node on.found on.side on.next
    → IsUnderWay what from n p query → query.node ≢ 0 → IsUnderWay what from (n + 1) q (query_read what query on)
gone_on what from p q le n query on r told u some = record {
  is_key = u.is_key;
  comes = λ more. comes_on (after_entries from p) (after_entries from q) n query.key query.node on reads
      (u.comes some) more;
  known = λ more. told.learned.leads more;
  ends = λ null. ends_so (after_entries from p) (after_entries from q) n query.key query.node on reads
      (u.comes some) null;
  leaf = λ values null found. leaf_kept what (after_entries from p) (after_entries from q) n query on reads values
      (u.comes some) null (eqb-true on.found query.key found);
}
  where
    reads : Reads query.key query.node (after_entries from p).view.log (after_entries from q).view.log on
    reads = reads_after from query.key query.node p.view.log q.view.log on le r

-- one that has ended stays so
pub ended_further : (what : What) (from : ℕ) (p : PassView) (n : ℕ) (query : Query) → query.node ≡ 0
    → IsUnderWay what from n p query → IsUnderWay what from (n + 1) p query
ended_further what from p n query null u = record {
  is_key = u.is_key;
  comes = λ some. absurd (some null);
  known =
      u.known;
  ends = u.ends;
  leaf = u.leaf;
}

-- a walk that has passed more nodes has passed any fewer
pub passed_any : (what : What) (from : ℕ) (p : PassView) (n : ℕ) (queries : List Query)
    → All (IsUnderWay what from n p) queries → All (IsUnderWay what from 0 p) queries
passed_any what from p n queries all i d below = let u = all i d below in record {
  is_key = u.is_key;
  comes = λ some. let h = u.comes some in (h.0, h.1, h.2, (let many = h.3 in omega (arith, many)));
  known = u.known;
  ends = u.ends;
  leaf = u.leaf;
}

-- and a walk whose looks came after some entries is one of the whole log
pub under_way_in_all : (what : What) (from n : ℕ) (p : PassView) (query : Query) → IsUnderWay what from n p query
    → IsUnderWay what 0 n p query
under_way_in_all what from n p query u = record {
  is_key = u.is_key;
  comes = λ some. passed_in_all from n query.key query.node p.view.log (u.comes some);
  known = u.known;
  ends = λ null. ended_in_all from p query.key query.found (u.ends null);
  leaf = λ values null found. ended_at_in_all from p query.key query.value (u.leaf values null found);
}

pub all_in_all : (what : What) (from n : ℕ) (p : PassView) (queries : List Query)
    → All (IsUnderWay what from n p) queries → All (IsUnderWay what 0 n p) queries
all_in_all what from n p queries all i d below =
    under_way_in_all what from n p (slice_index_or queries i d) (all i d below)

-- ---- a walk that is broken off

key_among : (queries : List Query) (i : ℕ) (d : Query) → i < length queries
    → Contains (map key_of queries) (slice_index_or queries i d).key
key_among [] i d below = absurd (omega (arith, below))
key_among (q ∷ qs) zero d below = (0, omega arith, refl)
key_among (q ∷ qs) (suc i) d below = let rest = key_among qs i d (omega (arith, below)) in
    (suc rest.0, (let less = rest.1 in omega (arith, less)), rest.2)

-- a fact of one query
pub one_of : (P : Query → Type 0) (q : Query) → P q → All P (q ∷ [])
one_of P q is zero d below = is
one_of P q is (suc i) d below = absurd (omega (arith, below))

-- one of these has not ended, where it has looked at as many nodes as a walk may
pub given_up : (what : What) (b : TreeView) (old : List Entry) (q : PassView) → IsPinnedIn b q
    → (n : ℕ) (queries : List Query) (keys : List ℕ) → map key_of queries ≡ keys → All (IsUnderWay what 0 n q) queries
    → (i : ℕ) × (i < length queries) × HoldsAt (λ x. x.node ≢ 0) queries i
    → suc n ≡ reach b.layout → AddsLooks (most_looks (reach b.layout) (length keys)) old q.view.log
    → GiveUp b.layout keys old q.view.log
given_up what b old q pinned n queries keys same all (i, below, left) far looks = of (slice_index_or queries i none)
    (all i none below) (left none) (key_among queries i none below)
  where
    none : Query
    none = record { key = 0; found = false; value = 0; node = 0 }

    of : (x : Query) → IsUnderWay what 0 n q x → x.node ≢ 0 → Contains (map key_of queries) x.key
        → GiveUp b.layout keys old q.view.log
    of x u some among = by b.layout.radix refl (u.comes some)
      where
        by : (radix : Bool) → b.layout.radix ≡ radix → HasPassed n q.view.log x.key x.node
            → GiveUp b.layout keys old q.view.log
        by false plain passed = (
          looks,
          plain,
          x.key,
          x.node,
          n,
          subst (λ (ks : List ℕ). Contains ks x.key) same
              among,
          passed,
          far ∙ far_of b.layout false plain,
        )
        by true radix passed =
            let key = u.is_key in
            let short = walks_are_short q.view.layout (enough q.view.layout pinned.run.fits)
            (ap (λ (L : Layout). L.radix) pinned.own.layout ∙ radix) q.view.number q.view.log
            pinned.run.run.is_part x.key x.node passed.0 passed.1 (omega (arith, key)) passed.2 in
            let all = far ∙ far_of b.layout true radix in
            let many = passed.3 in
            absurd (omega (arith, short, all, many))

-- ---- the answers

pub all_were_so : (what : What) (p : PassView) (Was : ℕ → Bool → Type 0)
    → ((k : ℕ) (answer : Bool) → IsKey k → HasEndedSo p k answer → Was k answer)
    → (queries : List Query) → All (IsUnderWay what 0 0 p) queries → All (λ x. x.node ≡ 0) queries
    → All (λ x. Was x.key x.found) queries
all_were_so what p Was so queries all ended i d below = let u = all i d below in
    so (slice_index_or queries i d).key (slice_index_or queries i d).found u.is_key (u.ends (ended i d below))
