-- A walk over a range of keys: what it reaches, what it keeps for later, and what it shows.
use Rattle.std.proofs.Common.{◌≡◌, ◌≢◌, ◌<◌, ◌≤◌, ◌==◌, ◌⊎◌, inl, inr, ℕ, suc, ◌+◌, ◌*◌, leb, ltb, Bool, true, false, cond, ◌&&◌, List, [], ◌∷◌, ◌++◌, append_assoc, length, refl, sym, ap, subst, ◌∙◌, arith}
use Rattle.std.specs.Prelude.{Option, Some, None, IfSome, All, take, Result, Ok, Err, IfOk, IfErr}
use Rattle.std.proofs.lemmas.Result.{IfOk-weaker, IfErr-weaker}
use Rattle.std.proofs.Math.Nat.{add-mul}
use Rattle.std.proofs.lemmas.Bool.{cases_lt, lt-ltb, le-ltb, le-leb, eq-eqb, ne_eqb, and_from, and_left, and_right, cond-true, cond-false, lt-leb}
use Rattle.std.proofs.lemmas.List.{length-append, length-take-le}
use Rattle.std.proofs.lemmas.List.Elements.{All-push, All-cons, All-nil, All-weaker, All-same}
use Rattle.nm_edge.specs.Edges.{Edge}
use Rattle.nm_edge.specs.Keys.{IsKey}
use Rattle.nm_edge.specs.Layouts.{Layout, IsLayout}
use Rattle.nm_edge.specs.declared.edge.Side.{Side}
use Rattle.nm_edge.specs.declared.edge.Side.TheVariants.{Left, Right}
use Rattle.nm_model.specs.declared.event.Event.TheVariants.{Look, Sight, Leave}
use Rattle.nm_model.specs.declared.knowledge.Brief.{Brief}
use Rattle.nm_model.specs.declared.event.Field.TheVariants.{Key as KeyOf, Edge as EdgeOn}
use Rattle.nm_model.specs.declared.reply.Reply.TheVariants.{KeyIs, EdgeIs, Departed}
use Rattle.nm_model.specs.Memory.{infinity_0}
use Rattle.nm_model.specs.Searches.{side_of}
use Rattle.nm_model.specs.Walks.{Entry, since_pin, IsPart, WalkEnds, WalkReads}
use Rattle.nm_model.specs.Walks.IsPart.{nothing, takes, skips}
use Rattle.nm_model.specs.Walks.Leads.{leads_on}
use Rattle.nm_order.proofs.LogParts.{part_within}
use Rattle.nm_order.proofs.RadixLaws.{walks_are_short}
use Rattle.nm_order.specs.Facts.Fact.{KnowsSlot}
use Rattle.nm_steps.specs.Steps.{TreeView, PassView, Stepped, TakesStep, Continues, HasSeen}
use Rattle.nm_steps.proofs.Seeing.{same_by_step, same_then, seen_by_turn, seen_itself, seen_through, stores_same}
use Rattle.nm_epoch.specs.Resting.{IsResting, KeepsHands, epochs}
use Rattle.nm_epoch.specs.Tries.{IsPinnedBy, IsMoved}
use Rattle.nm_epoch.proofs.KeptHands.{kept_on}
use Rattle.nm_walks.specs.declared.looking.Onward.{Onward}
use Rattle.nm_calls.specs.declared.fault.CallFault.{CallFault}
use Rattle.nm_calls.specs.declared.fault.CallFault.TheVariants as fault
use Rattle.nm_calls.specs.declared.scanning.Scanned.{Scanned}
use Rattle.nm_calls.specs.declared.stretches.Stretch.{Stretch}
use Rattle.nm_calls.specs.NearKeys.{IsPast, Lies, bound}
use Rattle.nm_calls.specs.PlainWalks.{GivesUpUnderPin, HasEndedAt, HasEndedSo, HasPassed, LooksUnderPin, WasSo, most_looks}
use Rattle.nm_calls.specs.Scans.{AfterScan, Chooses, GiveUp, HasFoundNone, HasRouter, HasStoppedShort, Keeps, IsFull, IsIn, IsRangeBy, IsStretch, IsTooFar, StopsShort, beyond, count_of, end_of, entry_of, exit_of, found_in, leg_looks, most_keys, stretch_over}
use Rattle.nm_walks.specs.AddedLooks.{AddsLooks}
use Rattle.nm_walks.specs.Bounds.{reach}
use Rattle.nm_walks.specs.Telling.{Tells, GoesOn, OnlyLooks, EdgeTold, OnwardTold, IsPinnedIn}
use Rattle.nm_walks.specs.Walks.{Reads, IsLeafRead, edge_on}
use Rattle.nm_walks.proofs.Looks.{enough}
use Rattle.nm_walks.proofs.PlainLooks.{looks_longer, read_added, since_grows}
use Rattle.nm_walks.proofs.ShortWalks.{far_of}
use Rattle.nm_calls.proofs.Adding.{cuts_none, has_won, plain_moved_adds}
use Rattle.nm_calls.proofs.MapMoments.{ends_at}
use Rattle.nm_calls.proofs.NearLooks.{read_alike}
use Rattle.nm_calls.proofs.PlainLooks.{call_adds, come_still, comes_first, comes_on, ended_still, ends_so, look_added, looks_in, looks_then, part_still, pin_missed, walks_missed, was_so}

-- ---- parts of lists

joined : {xs ys us vs : List Entry} → IsPart xs us → IsPart ys vs → IsPart (xs ++ ys) (us ++ vs)
joined nothing q = q
joined (takes p) q = takes (joined p q)
joined (skips p) q = skips (joined p q)

but_last : (xs : List Entry) (a b : Entry) → IsPart (xs ++ a ∷ []) (xs ++ a ∷ b ∷ [])
but_last [] a b = takes (skips nothing)
but_last (x ∷ xs) a b = takes (but_last xs a b)

-- ---- keys that turn to the same side

same_side : (k j v : ℕ) → k ≤ j → (k < v → j < v) → side_of j v ≡ side_of k v
same_side k j v le below = by (cases_lt k v)
  where
    by : (k < v) ⊎ (v ≤ k) → side_of j v ≡ side_of k v
    by (inl less) = ap (λ (t : Bool). cond t Left Right) (lt-ltb j v (below less) ∙ sym (lt-ltb k v less))
    by (inr above) = ap (λ (t : Bool). cond t Left Right)
        (le-ltb j v (omega (arith, le, above)) ∙ sym (le-ltb k v above))

-- ---- an internal node that was passed stays so

pub router_still : {m : ℕ} (p q : PassView) → AddsLooks m p.view.log q.view.log → (v : ℕ) → HasRouter p.view.log v
    → HasRouter q.view.log v
router_still p q a v (k, slot, parent, up, small, walk) = (
  k,
  slot,
  parent,
  up,
  small,
  record {
    looks = walk.looks;
    leads = walk.leads;
    next = walk.next;
    there =
        walk.there;
    is_part = part_still p q a _ walk.is_part;
  },
)

-- the bound at which a stretch ends
abbrev pub EndsBy : ℕ → PassView → ℕ → Type 0
EndsBy end p v = (v ≡ end) ⊎ HasRouter p.view.log v

pub ends_still : {m : ℕ} (end : ℕ) (p q : PassView) → AddsLooks m p.view.log q.view.log → (v : ℕ) → EndsBy end p v
    → EndsBy end q v
ends_still end p q a v (inl is) = inl is
ends_still end p q a v (inr walk) = inr (router_still p q a v walk)

-- a stretch with the same bounds, or with the one of them by which a scan to that side leaves it
same_exit : (side : Side) (d e : Stretch) → e.low ≡ d.low → e.high ≡ d.high → exit_of side d ≡ exit_of side e
same_exit Left d e low high = sym low
same_exit Right d e low high = sym high

-- ---- a stretch stays one

pub stretch_still : {m : ℕ} (side : Side) (end n : ℕ) (p q : PassView) → AddsLooks m p.view.log q.view.log
    → GoesOn p q → (d : Stretch) → IsStretch side end n p d → IsStretch side end n q d
stretch_still side end n p q a on d w = record {
  wide = w.wide;
  top = w.top;
  stops = w.stops;
  comes = λ some j le less. come_still p q a n j d.next.slot (w.comes some j le less);
  known = λ some. on.keeps (KnowsSlot d.next.slot) (w.known some);
  ends = λ null j le less. ended_still p q a j (d.found == j) (w.ends null j le less);
  parts = ends_still end p q a (exit_of side d) w.parts;
}

pub stretches_still : {m : ℕ} (side : Side) (end n : ℕ) (p q : PassView) → AddsLooks m p.view.log q.view.log
    → GoesOn p q → (ds : List Stretch) → All (IsStretch side end n p) ds → All (IsStretch side end n q) ds
stretches_still side end n p q a on ds all = All-weaker (IsStretch side end n p) (IsStretch side end n q)
    (stretch_still side end n p q a on) ds all

-- one whose walk has passed more nodes is one whose walk has passed fewer
pub stretch_sooner : (side : Side) (end n : ℕ) (p : PassView) (d : Stretch) → IsStretch side end n p d
    → IsStretch side end 0 p d
stretch_sooner side end n p d w = record {
  wide = w.wide;
  top = w.top;
  stops = w.stops;
  comes = λ some j le less. (let h = w.comes some j le less in
      (h.0, h.1, h.2, (let many = h.3 in omega (arith, many))));
  known = w.known;
  ends = w.ends;
  parts = w.parts;
}

-- a narrower stretch ends sooner
stops_within : (side : Side) (end : ℕ) (d e : Stretch) → d.low ≤ e.low → e.high ≤ d.high
    → Lies side (exit_of side d) end → Lies side (exit_of side e) end
stops_within Left end d e above below stops = omega (arith, above, stops)
stops_within Right end d e above below stops = omega (arith, below, stops)

-- ---- a walk begins

over_wide : (side : Side) (at end : ℕ) (first : Edge) → IsPast side at end
    → (stretch_over side at end first).low < (stretch_over side at end first).high
over_wide Left at end first past = past
over_wide Right at end first past = past

over_top : (side : Side) (at end : ℕ) (first : Edge) → at ≤ infinity_0 → end ≤ infinity_0
    → (stretch_over side at end first).high ≤ infinity_0
over_top Left at end first one other = one
over_top Right at end first one other = other

over_stops : (side : Side) (at end : ℕ) (first : Edge) → Lies side (exit_of side (stretch_over side at end first)) end
over_stops Left at end first = omega arith
over_stops Right at end first = omega arith

over_exit : (side : Side) (at end : ℕ) (first : Edge) → exit_of side (stretch_over side at end first) ≡ end
over_exit Left at end first = refl
over_exit Right at end first = refl

over_next : (side : Side) (at end : ℕ) (first : Edge) → (stretch_over side at end first).next ≡ first
over_next Left at end first = refl
over_next Right at end first = refl

pub over_entry : (side : Side) (at end : ℕ) (first : Edge) → entry_of side (stretch_over side at end first) ≡ at
over_entry Left at end first = refl
over_entry Right at end first = refl

pub stretch_begins : (side : Side) (at end : ℕ) (p q : PassView) (e : Edge)
    → Stepped p q (Look 2 (EdgeOn Left)) (EdgeIs e) → EdgeTold p q 2 Left e → IsPast side at end → at ≤ infinity_0
    → end ≤ infinity_0 → IsStretch side end 0 q (stretch_over side at end e)
stretch_begins side at end p q e step told past one other = record {
  wide = over_wide side at end e past;
  top = over_top side at end e one other;
  stops = over_stops side at end e;
  comes = λ some j le less. subst (HasPassed 0 q.view.log j) (sym is)
      (comes_first p q e step (λ null. some (is ∙ null)) j);
  known = λ some. subst (λ (x : ℕ). Tells q (KnowsSlot x)) (sym is) (told.learned.leads (λ null. some (is ∙ null)));
  ends = λ null. absurd (told.root refl refl (sym is ∙ null));
  parts = inl (over_exit side at end e);
}
  where
    is : (stretch_over side at end e).next.slot ≡ e.slot
    is = ap (λ (n : Edge). n.slot) (over_next side at end e)

-- ---- and reads a node

module _ (side : Side) (end n : ℕ) (p q : PassView) (d : Stretch) (on : Onward)
    (r : Reads d.low d.next.slot p.view.log q.view.log on)
    (told : OnwardTold p q d.low d.next.slot on.found on.side on.next) (w : IsStretch side end n p d)
    (some : d.next.slot ≢ 0) where
  -- keys that turn to the same side there go on with it
  on_with : (j : ℕ) → d.low ≤ j → j < d.high → (d.low < on.found → j < on.found) → on.next.slot ≢ 0
      → HasPassed (n + 1) q.view.log j on.next.slot
  on_with j le less below more = comes_on p q n j d.next.slot on
      (read_alike d.low j d.next.slot p.view.log q.view.log on (same_side d.low j on.found le below) r)
      (w.comes some j le less) more

  -- so the bound at which it ends is as it was
  ends_here : EndsBy end q (exit_of side d)
  ends_here = ends_still end p q (read_added d.low d.next.slot p.view.log q.view.log on r) (exit_of side d) w.parts

  -- if it is a leaf, each of its edges is null: a key below the leaf's goes right where the walk goes
  -- left
  reads_so : IsLeafRead d.next.slot p.view.log q.view.log on → on.next.slot ≡ 0 → (j : ℕ) → d.low ≤ j → j < d.high
      → (mine : Onward) × Reads j d.next.slot p.view.log q.view.log mine × (mine.found ≡ on.found)
      × (mine.next.slot ≡ 0)
  reads_so leaf null j le less = by (cases_lt d.low on.found)
    where
      on_side : (s : Side) (left right : Edge) → left.slot ≡ 0 → right.slot ≡ 0 → (edge_on s left right).slot ≡ 0
      on_side Left left right none null' = none
      on_side Right left right none null' = null'

      by : (d.low < on.found) ⊎ (on.found ≤ d.low) → (mine : Onward) × Reads j d.next.slot p.view.log q.view.log mine
          × (mine.found ≡ on.found) × (mine.next.slot ≡ 0)
      by (inl below) =
          let left : on.side ≡ Left = r.3 ∙ ap (λ (b : Bool). cond b Left Right) (lt-ltb d.low on.found below) in
          let both = leaf left null in
          let mine : Onward = record {
            found = on.found;
            side = side_of j on.found;
            next = edge_on
                (side_of j on.found) both.0 both.1;
          } in
          (mine, (both.0, both.1, both.2, refl, refl), refl, on_side (side_of j on.found) both.0 both.1 both.3 both.4)
      by (inr above) = (
        on,
        read_alike d.low j d.next.slot p.view.log q.view.log on
            (same_side d.low j on.found le (λ below. absurd (omega (arith, below, above)))) r,
        refl,
        null,
      )

  -- at which the walk for its key has ended, if that is one of them
  pub leaf_on : IsLeafRead d.next.slot p.view.log q.view.log on → on.next.slot ≡ 0 → d.low ≤ on.found
      → on.found < d.high → HasEndedAt q on.found d.next.slot
  leaf_on leaf null le less =
      let m = reads_so leaf null on.found le less in
      let c = w.comes some on.found le less in (
        c.0,
        c.1,
        subst (WalkEnds on.found (since_pin [] q.view.log) d.next.slot c.0 c.1) m.2
            (ends_at p q n on.found d.next.slot m.0 m.1 c m.3),
      )

  -- and the walks for all of them go on, or it is a leaf
  pub stretch_on : IsLeafRead d.next.slot p.view.log q.view.log on
      → (on.next.slot ≢ 0 → (on.found ≤ d.low) ⊎ (d.high ≤ on.found))
      → IsStretch side end (n + 1) q (record { low = d.low; high = d.high; next = on.next; found = on.found })
  stretch_on leaf together = record {
    wide = w.wide;
    top = w.top;
    stops = stops_within side end d (record { low = d.low; high = d.high; next = on.next; found = on.found })
        (omega arith) (omega arith) w.stops;
    comes = λ more j le less. on_with j le less (λ below. all j le less below (together more)) more;
    known = λ more. told.learned.leads more;
    ends = λ null j le less. (let m = reads_so leaf null j le less in
        subst (λ (v : ℕ). HasEndedSo q j (v == j)) m.2
        (ends_so p q n j d.next.slot m.0 m.1 (w.comes some j le less) m.3));
    parts = subst (EndsBy end q) (same_exit side d (record
        { low = d.low; high = d.high; next = on.next; found = on.found }) refl refl) ends_here;
  }
    where
      all : (j : ℕ) → d.low ≤ j → j < d.high → d.low < on.found → (on.found ≤ d.low) ⊎ (d.high ≤ on.found)
          → j < on.found
      all j le less below (inl above) = absurd (omega (arith, below, above))
      all j le less below (inr high) = omega (arith, less, high)

  module _ (more : on.next.slot ≢ 0) (above : d.low < on.found) (below : on.found < d.high) where
    -- the walk passes it
    routes : HasRouter q.view.log on.found
    routes =
        let h = w.comes some d.low (omega arith) w.wide in
        let wide = w.wide in
        let top = w.top in (
          d.low,
          d.next.slot,
          h.0,
          h.1,
          omega (arith, wide, top),
          record {
            looks = h.2.looks;
            leads = h.2.leads;
            next = on.next;
            there = more;
            is_part = looks_longer
                p.view.log q.view.log d.low d.next.slot on r h.2.looks h.2.is_part;
          },
        )

    lower_ends : (s : Side) → EndsBy end q (exit_of s d)
        → EndsBy end q (exit_of s (record { low = d.low; high = on.found; next = on.next; found = on.found }))
    lower_ends Left here = here
    lower_ends Right here = inr routes

    upper_ends : (s : Side) (e : Edge) → EndsBy end q (exit_of s d)
        → EndsBy end q (exit_of s (record { low = on.found; high = d.high; next = e; found = on.found }))
    upper_ends Left e here = inr routes
    upper_ends Right e here = here

    -- if they part there, it goes on with the lower ones
    lower_on : IsStretch side end (n + 1) q (record { low = d.low; high = on.found; next = on.next; found = on.found })
    lower_on = record {
      wide = above;
      top = let top = w.top in omega (arith, top, below);
      stops = stops_within side end d (record { low = d.low; high = on.found; next = on.next; found = on.found })
          (omega arith) (omega (arith, below)) w.stops;
      comes = λ _ j le less. on_with j le (omega (arith, less, below)) (λ _. less) more;
      known = λ _. told.learned.leads more;
      ends = λ null. absurd (more null);
      parts = lower_ends side ends_here;
    }

    -- and the others have read its key
    has_read : (j : ℕ) → on.found ≤ j → j < d.high → (parent : ℕ) × (up : Side)
        × (walk : WalkReads j (since_pin [] q.view.log) d.next.slot parent up on.found)
        × (1 + 2 * n ≤ length walk.looks)
    has_read j le less =
        let h = w.comes some j (omega (arith, above, le)) less in (
          h.0,
          h.1,
          record {
            looks = h.2.looks;
            leads = h.2.leads;
            is_part = part_within (looks_longer p.view.log q.view.log d.low d.next.slot on r h.2.looks h.2.is_part)
                (h.2.looks ++ (Look d.next.slot KeyOf, KeyIs on.found) ∷ [])
                (but_last h.2.looks (Look d.next.slot KeyOf, KeyIs on.found)
                (Look d.next.slot (EdgeOn (side_of d.low on.found)), EdgeIs on.next));
          },
          h.3,
        )

    -- so they go on by the right edge
    module _ (z : PassView) (e : Edge) (step : Stepped q z (Look d.next.slot (EdgeOn Right)) (EdgeIs e))
        (on' : GoesOn q z) (told' : EdgeTold q z d.next.slot Right e) where
      right : (j : ℕ) → on.found ≤ j → side_of j on.found ≡ Right
      right j le = ap (λ (b : Bool). cond b Left Right) (le-ltb j on.found le)

      looks_more : (j : ℕ) → on.found ≤ j → (looks : List Entry)
          → IsPart (looks ++ (Look d.next.slot KeyOf, KeyIs on.found) ∷ []) (since_pin [] q.view.log)
          → IsPart (looks ++ (Look d.next.slot KeyOf, KeyIs on.found)
          ∷ (Look d.next.slot (EdgeOn (side_of j on.found)), EdgeIs e) ∷ []) (since_pin [] z.view.log)
      looks_more j le looks part = subst (λ (s : Side). IsPart
          (looks ++ (Look d.next.slot KeyOf, KeyIs on.found) ∷ (Look d.next.slot (EdgeOn s), EdgeIs e) ∷ [])
          (since_pin [] z.view.log)) (sym (right j le))
          (subst (IsPart (looks ++ (Look d.next.slot KeyOf, KeyIs on.found)
          ∷ (Look d.next.slot (EdgeOn Right), EdgeIs e) ∷ []))
          (sym (since_grows q.view.log z.view.log (look_added q z d.next.slot Right e step)))
          (subst (λ (l : List Entry). IsPart l (since_pin [] q.view.log
          ++ (Look d.next.slot (EdgeOn Right), EdgeIs e) ∷ []))
          (append_assoc looks ((Look d.next.slot KeyOf, KeyIs on.found) ∷ [])
          ((Look d.next.slot (EdgeOn Right), EdgeIs e) ∷ []))
          (joined part (takes nothing))))

      comes_right : e.slot ≢ 0 → (j : ℕ) → on.found ≤ j → j < d.high → HasPassed (n + 1) z.view.log j e.slot
      comes_right there j le less =
          let h = has_read j le less in (
            d.next.slot,
            side_of j on.found,
            record {
              looks = h.2.looks ++ (Look d.next.slot KeyOf, KeyIs on.found)
                  ∷ (Look d.next.slot (EdgeOn (side_of j on.found)), EdgeIs e)
                  ∷ [];
              leads = leads_on h.2.leads on.found e there;
              is_part = looks_more j le h.2.looks h.2.is_part;
            },
            (let many = h.3 in
                let more = length-append h.2.looks ((Look d.next.slot KeyOf, KeyIs on.found)
                ∷ (Look d.next.slot (EdgeOn (side_of j on.found)), EdgeIs e) ∷ []) in omega (arith, many, more)),
          )

      right_end : e.slot ≡ 0 → (j : ℕ) → on.found ≤ j → j < d.high
          → (parent : ℕ) × (up : Side) × WalkEnds j (since_pin [] z.view.log) d.next.slot parent up on.found
      right_end null j le less = let h = has_read j le less in (
        h.0,
        h.1,
        record {
          looks = h.2.looks;
          leads = h.2.leads;
          null = e;
          is_null = null;
          is_part = looks_more j le
              h.2.looks h.2.is_part;
        },
      )

      ends_right : e.slot ≡ 0 → (j : ℕ) → on.found ≤ j → j < d.high → HasEndedSo z j (on.found == j)
      ends_right null j le less = let h = right_end null j le less in (d.next.slot, h.0, on.found, h.1, h.2, refl)

      pub leaf_right : e.slot ≡ 0 → HasEndedAt z on.found d.next.slot
      leaf_right null = right_end null on.found (omega arith) below

      pub upper_on : IsStretch side end (n + 1) z (record { low = on.found; high = d.high; next = e; found = on.found })
      upper_on = record {
        wide = below;
        top = w.top;
        stops = stops_within side end d (record { low = on.found; high = d.high; next = e; found = on.found })
            (omega (arith, above)) (omega arith) w.stops;
        comes = comes_right;
        known = λ there. told'.learned.leads there;
        ends = ends_right;
        parts = ends_still end q z (look_added q z d.next.slot Right e step)
            (exit_of side (record { low = on.found; high = d.high; next = e; found = on.found }))
            (upper_ends side e ends_here);
      }

      pub lower_still : IsStretch side end (n + 1) z
          (record { low = d.low; high = on.found; next = on.next; found = on.found })
      lower_still = stretch_still side end (n + 1) q z (look_added q z d.next.slot Right e step) on'
          (record { low = d.low; high = on.found; next = on.next; found = on.found }) lower_on

-- ---- one of two is kept

kept_all : (P : Stretch → Type 0) (old new : List Stretch) (d : Stretch) → Keeps old new d → All P old → P d → All P new
kept_all P old new d (inl more) all is = All-same P new (old ++ d ∷ []) more (All-push P old d all is)
kept_all P old new d (inr alone) all is = All-same P new (d ∷ []) alone (All-cons P d [] is (All-nil P))

pub chosen : (side : Side) (P Q : Stretch → Type 0) (old new : List Stretch) (lower upper result : Stretch)
    → Chooses side old new lower upper result → All Q old → P lower → P upper → ((d : Stretch) → P d → Q d)
    → P result × All Q new
chosen Left P Q old new lower upper result (is, keeps) all one other weaker =
    (subst P (sym is) other, kept_all Q old new lower keeps all (weaker lower one))
chosen Right P Q old new lower upper result (is, keeps) all one other weaker =
    (subst P (sym is) one, kept_all Q old new upper keeps all (weaker upper other))

-- it is the one with which the scan enters both
pub chosen_entry : (side : Side) (old new : List Stretch) (lower upper result d : Stretch)
    → Chooses side old new lower upper result → lower.low ≡ d.low → upper.high ≡ d.high
    → entry_of side result ≡ entry_of side d
chosen_entry Left old new lower upper result d (is, keeps) low high = ap (λ (x : Stretch). x.high) is ∙ high
chosen_entry Right old new lower upper result d (is, keeps) low high = ap (λ (x : Stretch). x.low) is ∙ low

pub no_stretches : (P : Stretch → Type 0) (new : List Stretch) → new ≡ [] → All P new
no_stretches P new none = All-same P new [] none (All-nil P)

-- ---- a walk that has looked at as many nodes as it may

pub too_far : (b : TreeView) (q : PassView) → IsPinnedIn b q → (side : Side) (end n : ℕ) (d : Stretch)
    → IsStretch side end n q d → d.next.slot ≢ 0 → suc n ≡ reach b.layout → (k : ℕ) → d.low ≤ k → k < d.high
    → IsTooFar b.layout k q.view.log
too_far b q pinned side end n d w some far k le less = by b.layout.radix refl
  where
    by : (radix : Bool) → b.layout.radix ≡ radix → IsTooFar b.layout k q.view.log
    by false plain = (plain, d.next.slot, n, w.comes some k le less, far ∙ far_of b.layout false plain)
    by true radix =
        let passed = w.comes some k le less in
        let top = w.top in
        let short = walks_are_short q.view.layout (enough q.view.layout pinned.run.fits)
        (ap (λ (L : Layout). L.radix) pinned.own.layout ∙ radix) q.view.number q.view.log
        pinned.run.run.is_part k d.next.slot passed.0 passed.1 (omega (arith, top, less)) passed.2 in
        let all = far ∙ far_of b.layout true radix in
        let many = passed.3 in
        absurd (omega (arith, short, all, many))

-- ---- ranges

pub past_lies : (side : Side) (a b : ℕ) → IsPast side a b → Lies side a b
past_lies Left a b past = omega (arith, past)
past_lies Right a b past = omega (arith, past)

in_or : (side : Side) (a b c j : ℕ) → IsIn side a c j → IsIn side a b j ⊎ IsIn side b c j
in_or Left a b c j is = by (cases_lt j b)
  where
    by : (j < b) ⊎ (b ≤ j) → IsIn Left a b j ⊎ IsIn Left b c j
    by (inl less) = inr (is.0, less)
    by (inr above) = inl (above, is.1)
in_or Right a b c j is = by (cases_lt j b)
  where
    by : (j < b) ⊎ (b ≤ j) → IsIn Right a b j ⊎ IsIn Right b c j
    by (inl less) = inl (is.0, less)
    by (inr above) = inr (above, is.1)

in_sooner : (side : Side) (a b c j : ℕ) → IsIn side a b j → Lies side b c → IsIn side a c j
in_sooner Left a b c j is lies = ((let le = is.0 in omega (arith, le, lies)), is.1)
in_sooner Right a b c j is lies = (is.0, (let less = is.1 in omega (arith, less, lies)))

in_later : (side : Side) (a b c j : ℕ) → Lies side a b → IsIn side b c j → IsIn side a c j
in_later Left a b c j lies is = (is.0, (let less = is.1 in omega (arith, less, lies)))
in_later Right a b c j lies is = ((let le = is.0 in omega (arith, le, lies)), is.1)

bound_lies : (side : Side) (a b k : ℕ) → IsIn side a b k → Lies side (bound side k) b
bound_lies Left a b k is = let le = is.0 in omega (arith, le)
bound_lies Right a b k is = let less = is.1 in omega (arith, less)

lies_beyond : (side : Side) (a b k : ℕ) → IsIn side a b k → Lies side a (beyond side k)
lies_beyond Left a b k is = let less = is.1 in omega (arith, less)
lies_beyond Right a b k is = let le = is.0 in omega (arith, le)

beyond_lies : (side : Side) (a b k : ℕ) → IsIn side a b k → Lies side (beyond side k) b
beyond_lies Left a b k is = is.0
beyond_lies Right a b k is = let less = is.1 in omega (arith, less)

before_not : (side : Side) (a k j : ℕ) → IsIn side a (bound side k) j → k ≡ j → ⊥
before_not Left a k j is same = let le = is.0 in omega (arith, le, same)
before_not Right a k j is same = let less = is.1 in omega (arith, less, same)

after_not : (side : Side) (b k j : ℕ) → IsIn side (beyond side k) b j → k ≡ j → ⊥
after_not Left b k j is same = let less = is.1 in omega (arith, less, same)
after_not Right b k j is same = let le = is.0 in omega (arith, le, same)

-- what is so of keys by one account is so by another
pub range_by : (side : Side) (A B : ℕ → Bool → Type 0) → ((k : ℕ) (b : Bool) → IsKey k → A k b → B k b)
    → (from to : ℕ) (ks : List ℕ) → IsRangeBy side A from to ks → IsRangeBy side B from to ks
range_by side A B on from to [] none = λ j key is. on j false key (none j key is)
range_by side A B on from to (k ∷ ks) (is, key, was, none, rest) = (
  is,
  key,
  on k true key was,
  (λ j key is. on j false key (none j key is)),
  range_by side A B on (beyond side k)
      to ks rest,
)

-- two of them in a row
pub range_then : (side : Side) (W : ℕ → Bool → Type 0) (a b c : ℕ) (xs ys : List ℕ) → Lies side a b → Lies side b c
    → IsRangeBy side W a b xs → IsRangeBy side W b c ys → IsRangeBy side W a c (xs ++ ys)
range_then side W a b c [] [] ab bc none none' = λ j key is. by j key (in_or side a b c j is)
  where
    by : (j : ℕ) → IsKey j → IsIn side a b j ⊎ IsIn side b c j → W j false
    by j key (inl before) = none j key before
    by j key (inr after) = none' j key after
range_then side W a b c [] (y ∷ ys) ab bc none (is, key, was, none', rest) =
    (in_later side a b c y ab is, key, was, (λ j key in'. by j key (in_or side a b (bound side y) j in')), rest)
  where
    by : (j : ℕ) → IsKey j → IsIn side a b j ⊎ IsIn side b (bound side y) j → W j false
    by j key (inl before) = none j key before
    by j key (inr after) = none' j key after
range_then side W a b c (x ∷ xs) ys ab bc (is, key, was, none, rest) second = (
  in_sooner side a b c x is bc,
  key,
  was,
  none,
  range_then side W (beyond side x) b c xs ys
      (beyond_lies side a b x is) bc rest second,
)

-- none so far
none_in : (side : Side) (a j : ℕ) → IsIn side a a j → ⊥
none_in Left a j is = let le = is.0 in let less = is.1 in omega (arith, le, less)
none_in Right a j is = let le = is.0 in let less = is.1 in omega (arith, le, less)

pub range_none : (side : Side) (W : ℕ → Bool → Type 0) (a : ℕ) → IsRangeBy side W a a []
range_none side W a = λ j key is. absurd (none_in side a j is)

-- a range without keys between its bounds
in_empty : (side : Side) (a b j : ℕ) → Lies side b a → IsIn side a b j → ⊥
in_empty Left a b j lies is = let le = is.0 in let less = is.1 in omega (arith, le, less, lies)
in_empty Right a b j lies is = let le = is.0 in let less = is.1 in omega (arith, le, less, lies)

pub range_empty : (side : Side) (W : ℕ → Bool → Type 0) (a b : ℕ) → Lies side b a → IsRangeBy side W a b []
range_empty side W a b lies = λ j key is. absurd (in_empty side a b j lies is)

-- a bound that is cut down to that of all keys bounds the same keys
module _ (end to : ℕ) (le : end ≤ to) (same : (end ≡ to) ⊎ (end ≡ infinity_0)) where
  to_cut : (side : Side) (a j : ℕ) → IsKey j → IsIn side a to j → IsIn side a end j
  to_cut Left a j key is = ((let above = is.0 in omega (arith, above, le)), is.1)
  to_cut Right a j key is = by same
    where
      by : (end ≡ to) ⊎ (end ≡ infinity_0) → IsIn Right a end j
      by (inl is_to) = (is.0, (let less = is.1 in omega (arith, less, is_to)))
      by (inr is_top) = (is.0, (let high = key in omega (arith, high, is_top)))

  pub from_cut : (side : Side) (a j : ℕ) → IsKey j → IsIn side a end j → IsIn side a to j
  from_cut Left a j key is = by same
    where
      by : (end ≡ to) ⊎ (end ≡ infinity_0) → IsIn Left a to j
      by (inl is_to) = ((let above = is.0 in omega (arith, above, is_to)), is.1)
      by (inr is_top) = let above = is.0 in let high = key in absurd (omega (arith, high, is_top, above))
  from_cut Right a j key is = (is.0, (let less = is.1 in omega (arith, less, le)))

  pub range_cut : (side : Side) (W : ℕ → Bool → Type 0) (a : ℕ) (ks : List ℕ) → IsRangeBy side W a end ks
      → IsRangeBy side W a to ks
  range_cut side W a [] none = λ j key is. none j key (to_cut side a j key is)
  range_cut side W a (k ∷ ks) (is, key, was, none, rest) =
      (from_cut side a k key is, key, was, none, range_cut side W (beyond side k) ks rest)

  -- and the key at which a scan continues is before both
  pub end_cut : (side : Side) (W : ℕ → Bool → Type 0) (a : ℕ) (o : Option ℕ) (ks : List ℕ)
      → IsRangeBy side W a (end_of side end o) ks → IsRangeBy side W a (end_of side to o) ks
  end_cut side W a None ks range = range_cut side W a ks range
  end_cut side W a (Some k) ks range = range

-- ---- what a stretch shows at its end

found_yes : (d : Stretch) → d.low ≤ d.found → d.found < d.high → found_in d ≡ d.found ∷ []
found_yes d le less = cond-true (leb d.low d.found && ltb d.found d.high) (d.found ∷ []) []
    (and_from (leb d.low d.found) (ltb d.found d.high) (le-leb d.low d.found le) (lt-ltb d.found d.high less))

found_no : (d : Stretch) → (d.high ≤ d.found) ⊎ (d.found < d.low) → found_in d ≡ []
found_no d out = cond-false (leb d.low d.found && ltb d.found d.high) (d.found ∷ []) [] (by out)
  where
    by : (d.high ≤ d.found) ⊎ (d.found < d.low) → (leb d.low d.found && ltb d.found d.high) ≡ false
    by (inl above) = and_right (leb d.low d.found) (ltb d.found d.high) (le-ltb d.found d.high above)
    by (inr below) = and_left (leb d.low d.found) (ltb d.found d.high) (lt-leb d.low d.found below)

in_stretch : (side : Side) (d : Stretch) (j : ℕ) → IsIn side (entry_of side d) (exit_of side d) j
    → (d.low ≤ j) × (j < d.high)
in_stretch Left d j is = is
in_stretch Right d j is = is

of_stretch : (side : Side) (d : Stretch) (j : ℕ) → d.low ≤ j → j < d.high
    → IsIn side (entry_of side d) (exit_of side d) j
of_stretch Left d j le less = (le, less)
of_stretch Right d j le less = (le, less)

module _ (side : Side) (end n : ℕ) (p : PassView) (d : Stretch) (w : IsStretch side end n p d)
    (null : d.next.slot ≡ 0) where
  other : (j : ℕ) → IsIn side (entry_of side d) (exit_of side d) j → (d.found ≡ j → ⊥) → HasEndedSo p j false
  other j is apart = let within = in_stretch side d j is in
      subst (HasEndedSo p j) (ne_eqb d.found j apart) (w.ends null j within.0 within.1)

  stretch_shows : IsRangeBy side (HasEndedSo p) (entry_of side d) (exit_of side d) (found_in d)
  stretch_shows = by (cases_lt d.found d.low) (cases_lt d.found d.high)
    where
      by : (d.found < d.low) ⊎ (d.low ≤ d.found) → (d.found < d.high) ⊎ (d.high ≤ d.found)
          → IsRangeBy side (HasEndedSo p) (entry_of side d) (exit_of side d) (found_in d)
      by (inl below) _ = subst (IsRangeBy side (HasEndedSo p) (entry_of side d) (exit_of side d))
          (sym (found_no d (inr below)))
          (λ j key is. other j is (λ same. let within = in_stretch side d j is in let le = within.0 in
          omega (arith, same, le, below)))
      by (inr above) (inr past) = subst (IsRangeBy side (HasEndedSo p) (entry_of side d) (exit_of side d))
          (sym (found_no d (inl past)))
          (λ j key is. other j is (λ same. let within = in_stretch side d j is in let less = within.1 in
          omega (arith, same, less, past)))
      by (inr above) (inl less) =
          let here = of_stretch side d d.found above less in
          subst (IsRangeBy side (HasEndedSo p) (entry_of side d) (exit_of side d)) (sym (found_yes d above less)) (
            here,
            (let top = w.top in omega (arith, less, top)),
            subst (HasEndedSo p d.found) (eq-eqb d.found d.found refl) (w.ends null d.found above less),
            (λ j key is. other j (in_sooner side (entry_of side d) (bound side d.found) (exit_of side d) j is
                (bound_lies side (entry_of side d) (exit_of side d) d.found here))
                (before_not side (entry_of side d) d.found j is)),
            (λ j key is. other j (in_later side (entry_of side d) (beyond side d.found) (exit_of side d) j
                (lies_beyond side (entry_of side d) (exit_of side d) d.found here) is)
                (after_not side (exit_of side d) d.found j is)),
          )

  pub past_stretch : IsPast side (entry_of side d) (exit_of side d)
  past_stretch = by side
    where
      by : (s : Side) → IsPast s (entry_of s d) (exit_of s d)
      by Left = w.wide
      by Right = w.wide

  -- a stretch that has ended, with what was shown before
  pub shown_more : (start : ℕ) (old new : List ℕ) → Lies side start (entry_of side d) → new ≡ old ++ found_in d
      → IsRangeBy side (HasEndedSo p) start (entry_of side d) old
      → IsRangeBy side (HasEndedSo p) start (exit_of side d) new
  shown_more start old new lies grown shown = subst (IsRangeBy side (HasEndedSo p) start (exit_of side d))
      (sym grown) (range_then side (HasEndedSo p) start (entry_of side d) (exit_of side d) old (found_in d) lies
      (past_lies side (entry_of side d) (exit_of side d) past_stretch) shown stretch_shows)

-- what was shown stays so
pub range_still : {m : ℕ} (side : Side) (p q : PassView) → AddsLooks m p.view.log q.view.log
    → (from to : ℕ) (ks : List ℕ) → IsRangeBy side (HasEndedSo p) from to ks → IsRangeBy side (HasEndedSo q) from to ks
range_still side p q a from to ks shown = range_by side (HasEndedSo p) (HasEndedSo q)
    (λ k b key e. ended_still p q a k b e) from to ks shown

-- ---- a call that has made no look yet

pub goes_here : (b : TreeView) (p : PassView) → IsPinnedIn b p → GoesOn p p
goes_here b p pinned = record {
  same = refl;
  past = seen_itself p;
  run = pinned.run;
  stores = stores_same p.view.stores p.view.stores refl;
  keeps = λ fact holds. holds;
}

pub only_here : (p : PassView) → OnlyLooks p p
only_here p = record {
  epochs = refl;
  private = refl;
  ledgers = refl;
  call = refl;
  linked = refl;
  swapped = refl;
  flagged = refl;
  cut = refl;
}

-- a stretch that has ended, from the bound up to which the scan has come
pub shown_so : (side : Side) (end n : ℕ) (p : PassView) (d : Stretch) → IsStretch side end n p d → d.next.slot ≡ 0
    → (start at next : ℕ) (old new : List ℕ) → at ≡ entry_of side d → next ≡ exit_of side d → Lies side start at
    → new ≡ old ++ found_in d → IsRangeBy side (HasEndedSo p) start at old
    → IsRangeBy side (HasEndedSo p) start next new
shown_so side end n p d w null start at next old new is leaves lies grown shown =
    subst (λ (x : ℕ). IsRangeBy side (HasEndedSo p) start x new) (sym leaves)
    (shown_more side end n p d w null start old new (subst (Lies side start) is lies) grown
    (subst (λ (x : ℕ). IsRangeBy side (HasEndedSo p) start x old) is shown))

-- ---- a stretch with no key

found_none : (d : Stretch) → found_in d ≡ [] → d.low ≤ d.found → d.found < d.high → ⊥
found_none d none le less = let one = ap (λ (ks : List ℕ). length ks) (sym (found_yes d le less) ∙ none) in
    absurd (omega (arith, one))

-- between two internal nodes
stretch_lost : (side : Side) (end n : ℕ) (p : PassView) (d : Stretch) → IsStretch side end n p d → d.next.slot ≡ 0
    → found_in d ≡ [] → HasRouter p.view.log (exit_of side d) → HasRouter p.view.log (entry_of side d)
    → HasFoundNone p.view.log
stretch_lost side end n p d w null none leave enter = record {
  low = d.low;
  high = d.high;
  wide = w.wide;
  top = w.top;
  lower = lower side leave enter;
  upper = upper side leave enter;
  none = λ j le less. subst (HasEndedSo p j) (ne_eqb d.found j
      (λ same. found_none d none (omega (arith, le, same)) (omega (arith, less, same)))) (w.ends null j le less);
}
  where
    lower : (s : Side) → HasRouter p.view.log (exit_of s d) → HasRouter p.view.log (entry_of s d)
        → HasRouter p.view.log d.low
    lower Left leave enter = leave
    lower Right leave enter = enter

    upper : (s : Side) → HasRouter p.view.log (exit_of s d) → HasRouter p.view.log (entry_of s d)
        → HasRouter p.view.log d.high
    upper Left leave enter = enter
    upper Right leave enter = leave

pub none_still : {m : ℕ} (p q : PassView) → AddsLooks m p.view.log q.view.log → HasFoundNone p.view.log
    → HasFoundNone q.view.log
none_still p q a h = record {
  low = h.low;
  high = h.high;
  wide = h.wide;
  top = h.top;
  lower = router_still p q a h.low h.lower;
  upper = router_still p q a h.high h.upper;
  none = λ j le less. ended_still p q a j false (h.none j le less);
}

-- one walk fewer may end with no key, only after such a stretch, or at the end of the range
abbrev pub IsSpent : PassView → PassView → ℕ → ℕ → ℕ → Type 0
IsSpent p q at spare left = (left ≡ spare) ⊎ ((spare ≡ left + 1) × (HasRouter p.view.log at → HasFoundNone q.view.log))

not_past : (side : Side) (a : ℕ) → IsPast side a a → ⊥
not_past Left a past = omega (arith, past)
not_past Right a past = omega (arith, past)

pub not_both : (side : Side) (a b : ℕ) → IsPast side a b → Lies side b a → ⊥
not_both Left a b past lies = omega (arith, past, lies)
not_both Right a b past lies = omega (arith, past, lies)

pub spent : (side : Side) (end n : ℕ) (p : PassView) (d : Stretch) → IsStretch side end n p d → d.next.slot ≡ 0
    → (at next old new spare left : ℕ) (before after : List ℕ) → at ≡ entry_of side d → next ≡ exit_of side d
    → old ≤ length before → new ≤ length after
    → take new after ≡ take old before ++ found_in d → new + spare ≡ old + left + 1 → IsPast side next end
    → IsSpent p p at spare left
spent side end n p d w null at next old new spare left before after is leaves fits fits' wrote sum past = by
    (cases_lt d.found d.low) (cases_lt d.found d.high)
  where
    size : new ≡ old + length (found_in d)
    size = sym (length-take-le new after fits') ∙ (ap (λ (ks : List ℕ). length ks) wrote
        ∙ (length-append (take old before) (found_in d)
        ∙ ap (λ (x : ℕ). x + length (found_in d)) (length-take-le old before fits)))

    lost : found_in d ≡ [] → IsSpent p p at spare left
    lost none =
        let long = ap (λ (ks : List ℕ). length ks) none in
        inr (omega (arith, size, sum, long), λ enter. by_end w.parts none (subst (HasRouter p.view.log) is enter))
      where
        by_end : EndsBy end p (exit_of side d) → found_in d ≡ [] → HasRouter p.view.log (entry_of side d)
            → HasFoundNone p.view.log
        by_end (inl ends) none enter = absurd (not_past side end
            (subst (λ (x : ℕ). IsPast side x end) (leaves ∙ ends) past))
        by_end (inr leave) none enter = stretch_lost side end n p d w null none leave enter

    by : (d.found < d.low) ⊎ (d.low ≤ d.found) → (d.found < d.high) ⊎ (d.high ≤ d.found) → IsSpent p p at spare left
    by (inl below) _ = lost (found_no d (inr below))
    by (inr above) (inr high) = lost (found_no d (inl high))
    by (inr above) (inl less) = let long = ap (λ (ks : List ℕ). length ks) (found_yes d above less) in
        inl (omega (arith, size, sum, long))

pub spent_still : {m : ℕ} (p q : PassView) → AddsLooks m p.view.log q.view.log → (at spare left : ℕ)
    → IsSpent p p at spare left → IsSpent p q at spare left
spent_still p q a at spare left (inl same) = inl same
spent_still p q a at spare left (inr lost) = inr (lost.0, λ enter. none_still p q a (lost.1 enter))

-- where a scan has not ended at the end of its range, the bound is the key of an internal node
pub parts_there : (side : Side) (end n : ℕ) (p : PassView) (d : Stretch) → IsStretch side end n p d → (at : ℕ)
    → at ≡ exit_of side d → IsPast side at end → HasRouter p.view.log at
parts_there side end n p d w at leaves past = by w.parts
  where
    by : EndsBy end p (exit_of side d) → HasRouter p.view.log at
    by (inl ends) = absurd (not_past side end (subst (λ (x : ℕ). IsPast side x end) (leaves ∙ ends) past))
    by (inr walk) = subst (HasRouter p.view.log) (sym leaves) walk

-- the walks of a scan that have ended with no key: the first one alone, or one between two internal
-- nodes too
abbrev pub HasSpent : PassView → ℕ → ℕ → ℕ → ℕ → Type 0
HasSpent p tries turn at spare = ((turn ≡ 0) × (spare ≡ tries))
    ⊎ (HasRouter p.view.log at × ((tries ≤ spare + 1) ⊎ HasFoundNone p.view.log))

-- after one more
fewer : {m : ℕ} (p q : PassView) → AddsLooks m p.view.log q.view.log → (tries turn at spare left : ℕ)
    → HasSpent p tries turn at spare → IsSpent p q at spare left → (tries ≤ left + 1) ⊎ HasFoundNone q.view.log
fewer p q a tries turn at spare left (inl (none, all)) (inl same) = inl (omega (arith, all, same))
fewer p q a tries turn at spare left (inl (none, all)) (inr lost) = let one = lost.0 in inl (omega (arith, all, one))
fewer p q a tries turn at spare left (inr (walk, inl few)) (inl same) = inl (omega (arith, few, same))
fewer p q a tries turn at spare left (inr (walk, inl few)) (inr lost) = inr (lost.1 walk)
fewer p q a tries turn at spare left (inr (walk, inr none)) spent = inr (none_still p q a none)

pub spent_more : {m : ℕ} (p q : PassView) → AddsLooks m p.view.log q.view.log
    → (tries turn next at at' spare left : ℕ) → HasSpent p tries turn at spare → IsSpent p q at spare left
    → HasRouter q.view.log at' → HasSpent q tries next at' left
spent_more p q a tries turn next at at' spare left has spent walk = inr
    (walk, fewer p q a tries turn at spare left has spent)

-- why a scan has ended before its range
abbrev pub EndsEarly : Layout → PassView → ℕ → ℕ → ℕ → Type 0
EndsEarly L p tries room count = (count ≡ room) ⊎ (tries ≤ 1) ⊎ HasStoppedShort L p.view.log

pub early : {m : ℕ} (L : Layout) (p q : PassView) → AddsLooks m p.view.log q.view.log
    → (tries turn at spare left room count : ℕ) → HasSpent p tries turn at spare → IsSpent p q at spare left
    → (count ≡ room) ⊎ (left ≡ 0) ⊎ ((j : ℕ) × IsTooFar L j q.view.log) → EndsEarly L q tries room count
early L p q a tries turn at spare left room count has spent (inl full) = inl full
early L p q a tries turn at spare left room count has spent (inr (inr far)) = inr (inr (inr far))
early L p q a tries turn at spare left room count has spent (inr (inl none)) = by
    (fewer p q a tries turn at spare left has spent)
  where
    by : (tries ≤ left + 1) ⊎ HasFoundNone q.view.log → EndsEarly L q tries room count
    by (inl few) = inr (inl (omega (arith, few, none)))
    by (inr lost) = inr (inr (inl lost))

-- where there is a key at which to continue
pub early_so : (side : Side) (at end : ℕ) (X : Type 0) (o : Option ℕ) → IfSome o (λ k. IsKey k × IsPast side at end)
    → (IsPast side at end → X) → IfSome o (λ k. X)
early_so side at end X None is so = tt
early_so side at end X (Some k) is so = so is.1

-- of a slice of this length
pub early_in : (L : Layout) (p : PassView) (tries room places count : ℕ) (o : Option ℕ) → IsFull places room
    → IfSome o (λ k. EndsEarly L p tries room count)
    → IfSome o (λ k. IsFull places count ⊎ (tries ≤ 1) ⊎ HasStoppedShort L p.view.log)
early_in L p tries room places count None limit is = tt
early_in L p tries room places count (Some k) limit (inr more) = inr more
early_in L p tries room places count (Some k) (inl all) (inl full) = inl (inl (full ∙ all))
early_in L p tries room places count (Some k) (inr most) (inl full) = inl (inr (full ∙ most))

-- ---- how far a scan has come

lies_itself : (side : Side) (a : ℕ) → Lies side a a
lies_itself Left a = omega arith
lies_itself Right a = omega arith

pub past_on : (side : Side) (a b c : ℕ) → Lies side a b → IsPast side b c → IsPast side a c
past_on Left a b c lies past = omega (arith, lies, past)
past_on Right a b c lies past = omega (arith, lies, past)

lies_on : (side : Side) (a b c : ℕ) → Lies side a b → Lies side b c → Lies side a c
lies_on Left a b c lies past = omega (arith, lies, past)
lies_on Right a b c lies past = omega (arith, lies, past)

-- a stretch begins before the range ends
pub stretch_before : (side : Side) (end n : ℕ) (p : PassView) (d : Stretch) → IsStretch side end n p d
    → Lies side (entry_of side d) end × (entry_of side d ≤ infinity_0)
stretch_before Left end n p d w = ((let wide = w.wide in let stops = w.stops in omega (arith, wide, stops)), w.top)
stretch_before Right end n p d w = (
  (let wide = w.wide in let stops = w.stops in omega (arith, wide, stops)),
  (let wide = w.wide in let top = w.top in omega (arith, wide, top)),
)

-- it has not begun, or it is beyond its start
abbrev pub HasCome : Side → ℕ → ℕ → ℕ → ℕ → Type 0
HasCome side start turn at count = ((turn ≡ 0) × (at ≡ start) × (count ≡ 0)) ⊎ IsPast side start at

pub come_lies : (side : Side) (start turn at count : ℕ) → HasCome side start turn at count → Lies side start at
come_lies side start turn at count (inl (none, is, empty)) = subst (Lies side start) (sym is) (lies_itself side start)
come_lies side start turn at count (inr past) = past_lies side start at past

pub come_further : (side : Side) (start turn at count next room : ℕ) → HasCome side start turn at count
    → IsPast side at next ⊎ ((next ≡ at) × (room ≡ count)) → Lies side start next × (room ≢ 0 → IsPast side start next)
come_further side start turn at count next room come (inl past) =
    let on = past_on side start at next (come_lies side start turn at count come) past in
    (past_lies side start next on, λ _. on)
come_further side start turn at count next room (inl (none, is, empty)) (inr (same, full)) =
    (subst (Lies side start) (sym (same ∙ is)) (lies_itself side start), λ some. absurd (some (full ∙ empty)))
come_further side start turn at count next room (inr past) (inr (same, full)) =
    (subst (Lies side start) (sym same) (past_lies side start at past), λ _. subst (IsPast side start) (sym same) past)

-- what is known of the key at which it continues
pub next_shows : (side : Side) (end start at room : ℕ) (o : Option ℕ) → end_of side end o ≡ at
    → IfSome o (λ k. IsKey k × IsPast side at end) → Lies side start at × (room ≢ 0 → IsPast side start at)
    → IfSome o (λ k. IsKey k × Lies side start (bound side k) × IsPast side (bound side k) end
    × (room ≢ 0 → IsPast side start (bound side k)))
next_shows side end start at room None is next come = tt
next_shows side end start at room (Some k) is next come = (
  next.0,
  subst (Lies side start) (sym is) come.0,
  subst (λ (x : ℕ). IsPast side x end) (sym is) next.1,
  λ some.
      subst (IsPast side start) (sym is) (come.1 some),
)

-- and of a range that is cut down to that of all keys
key_within : (side : Side) (from end k : ℕ) → Lies side (bound side from) (bound side k)
    → IsPast side (bound side k) end → IsIn side (bound side from) end k
key_within Left from end k lies past = (omega (arith, past), omega (arith, lies))
key_within Right from end k lies past = (lies, past)

past_bound : (side : Side) (a b : ℕ) → IsPast side (bound side a) (bound side b) → IsPast side a b
past_bound Left a b past = omega (arith, past)
past_bound Right a b past = past

pub next_within : (side : Side) (from end to room length : ℕ) → end ≤ to → (end ≡ to) ⊎ (end ≡ infinity_0)
    → (room ≡ 0 → length ≡ 0) → (o : Option ℕ) → IfSome o
    (λ k. IsKey k × Lies side (bound side from) (bound side k) × IsPast side (bound side k) end
    × (room ≢ 0 → IsPast side (bound side from) (bound side k)))
    → IfSome o (λ k. IsKey k × IsIn side (bound side from) to k × (length ≢ 0 → IsPast side from k))
next_within side from end to room length le same none None next = tt
next_within side from end to room length le same none (Some k) (key, lies, past, beyond') = (
  key,
  from_cut end to le same side (bound side from) k key (key_within side from end k lies past),
  λ some.
      past_bound side from k (beyond' (λ zero'. some (none zero'))),
)

-- walks of so many legs each, one part after the other
pub legs_then : (n m most : ℕ) (old mid new : List Entry) → AddsLooks (n * most) old mid
    → AddsLooks (m * most) mid new → AddsLooks ((n + m) * most) old new
legs_then n m most old mid new a b = looks_in ((n + m) * most) old new
    (let both = add-mul n m most in omega (arith, both)) (looks_then old mid new a b)

-- the first walk of a scan is broken off
pub gives_up : (L : Layout) (side : Side) (from : ℕ) (d : Stretch) (old new : List Entry) → d.low < d.high
    → entry_of side d ≡ bound side from → ((k : ℕ) → d.low ≤ k → k < d.high → IsTooFar L k new)
    → AddsLooks (leg_looks (reach L)) old new → GiveUp L from old new
gives_up L side from d old new wide enters far looks =
    let within = first_in side from d wide enters in
    let is = far from within.0 within.1 in (
      looks_in (most_looks (reach L) 2) old new (omega arith) looks,
      is.0,
      from,
      is.1,
      is.2,
      (0, omega arith, refl),
      is.3,
      is.4,
    )
  where
    first_in : (side : Side) (from : ℕ) (d : Stretch) → d.low < d.high → entry_of side d ≡ bound side from
        → (d.low ≤ from) × (from < d.high)
    first_in Left from d wide is = (omega (arith, wide, is), omega (arith, is))
    first_in Right from d wide is = (omega (arith, is), omega (arith, wide, is))

-- ---- the whole call

-- a scan that has lost each try of its pin
pub after_lost_pin : (side : Side) (L : Layout) (tries from to : ℕ) (out : List ℕ) (o a : PassView) → tries ≢ 0
    → Continues o a → IsMoved Sight tries o.view.log a.view.log → IsResting a → KeepsHands o a
    → AfterScan side L tries from to out out o a (Err fault.Busy)
after_lost_pin side L tries from to out o a some pinning moved rests kept =
    let added = plain_moved_adds tries o.view.log a.view.log moved in
    record {
      same = pinning.same;
      past = pinning.past;
      did = tt;
      moment = tt;
      count = tt;
      next = tt;
      early = tt;
      busy = refl;
      kept = refl;
      missed = pin_missed (GiveUp L from) tries o.view.log a.view.log some moved;
      won = has_won _ _ added;
      uncut = cuts_none _ _ added;
      steps = (let few = added.steps in omega (arith, few));
      rests = rests;
      hands = kept;
    }

-- and one that pins at a, has walked at p, and has left at q
pub after_scan : (side : Side) (L : Layout) (tries from to key epoch : ℕ) (old out : List ℕ) (o a p q : PassView)
    (r : Result Scanned CallFault) → key ≡ from
    → Continues o a → IsPinnedBy Sight tries o.view.log a.view.log epoch → KeepsHands o a
    → GoesOn a p → OnlyLooks a p → AddsLooks ((count_of r + tries) * leg_looks (reach L)) a.view.log p.view.log
    → TakesStep p q Leave Departed → IsResting q → KeepsHands p q
    → HasSeen o.view → IsLayout o.view.layout → (epochs o).pin ≡ None → HasSeen p.view
    → IfOk r (λ s. IsRangeBy side (HasEndedSo p) (bound side key) (end_of side to s.next) (take s.count out))
    → IfOk r (λ s. (s.count ≤ length out) × (s.count ≤ most_keys))
    → IfOk r (λ s. IfSome s.next (λ k. IsKey k × IsIn side (bound side key) to k
    × (length out ≢ 0 → IsPast side key k)))
    → IfOk r (λ s. IfSome s.next (λ k. IsFull (length out) s.count ⊎ (tries ≤ 1) ⊎ HasStoppedShort L p.view.log))
    → IfErr r (λ e. GiveUp L key a.view.log p.view.log) → IfErr r (λ e. e ≡ fault.Busy) → IfErr r (λ e. out ≡ old)
    → AfterScan side L tries from to old out o q r
after_scan side L tries from to key epoch old out o a p q r is pinning pinned hands walked only looks leaves rests
    kept first fits unpinned mid told count next ends given_up busy same =
    let did : LooksUnderPin tries ((count_of r + tries) * leg_looks (reach L)) o.view.log q.view.log =
    record {
      pinned = a.view.log;
      epoch = epoch;
      pin = pinned;
      looked = p.view.log;
      looks = looks;
      leaves = ap
          (λ (s : PassView). s.view.log) leaves.step;
    } in
    let added = call_adds tries ((count_of r + tries) * leg_looks (reach L)) o.view.log q.view.log did in
    let so = was_so o a p q first fits unpinned pinning walked mid leaves in
    record {
      same = same_then o p q (same_then o a p pinning.same walked.same) (same_by_step p q Leave Departed leaves.step);
      past = seen_through o p q (seen_through o a p pinning.past walked.past)
          (seen_by_turn p q Leave Departed leaves.past);
      did = any_ok r did;
      moment = IfOk-weaker r _ (λ s. IsRangeBy side (WasSo o q) (bound side from) (end_of side to s.next)
          (take s.count out)) (λ s range. range_by side (HasEndedSo p) (WasSo o q) so (bound side from)
          (end_of side to s.next) (take s.count out) (subst
          (λ (k : ℕ). IsRangeBy side (HasEndedSo p) (bound side k) (end_of side to s.next) (take s.count out)) is
          range)) told;
      count = count;
      next = subst (λ (x : ℕ). IfOk r (λ s. IfSome s.next
          (λ k. IsKey k × IsIn side (bound side x) to k × (length out ≢ 0 → IsPast side x k)))) is next;
      early = IfOk-weaker r _ _ (λ s. stopped s.next s.count did.leaves) ends;
      busy = busy;
      kept = same;
      missed = IfErr-weaker r _ _ (λ e gives. walks_missed (GiveUp L from) tries o.view.log a.view.log p.view.log
          q.view.log epoch pinned gives did.leaves) (subst (λ (x : ℕ). IfErr r (λ e. GiveUp L x a.view.log p.view.log))
          is given_up);
      won = has_won _ _ added;
      uncut = cuts_none _ _ added;
      steps = (let few = added.steps in omega (arith, few));
      rests = rests;
      hands = kept_on o p q (kept_on o a p hands looks_keep) kept;
    }
  where
    any_ok : (x : Result Scanned CallFault) → LooksUnderPin tries ((count_of x + tries) * leg_looks (reach L))
        o.view.log q.view.log → IfOk x (λ s. LooksUnderPin tries ((s.count + tries) * leg_looks (reach L)) o.view.log
        q.view.log)
    any_ok (Ok s) did = did
    any_ok (Err e) did = tt

    stopped : (next : Option ℕ) (count : ℕ) → q.view.log ≡ p.view.log ++ (Leave, Departed) ∷ []
        → IfSome next (λ k. IsFull (length out) count ⊎ (tries ≤ 1) ⊎ HasStoppedShort L p.view.log)
        → IfSome next (λ k. IsFull (length out) count ⊎ (tries ≤ 1)
        ⊎ GivesUpUnderPin (StopsShort L) tries o.view.log q.view.log)
    stopped None count left ends = tt
    stopped (Some k) count left (inl full) = inl full
    stopped (Some k) count left (inr (inl few)) = inr (inl few)
    stopped (Some k) count left (inr (inr short)) = inr
        (inr (a.view.log, p.view.log, epoch, pinned, (_, looks, short), left))

    looks_keep : KeepsHands a p
    looks_keep = record {
      private = only.private;
      labelled = λ was. ap (λ (b : Brief). b.unlabelled) only.epochs
          ∙ was;
      ledgers = λ was. only.ledgers;
    }
