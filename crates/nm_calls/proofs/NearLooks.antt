-- A walk that serves many keys, and what such walks show of the key nearest to one.
use Rattle.std.proofs.Common.{◌≡◌, ◌≢◌, ◌<◌, ◌≤◌, ◌==◌, ◌⊎◌, inl, inr, ℕ, zero, suc, ◌+◌, ◌*◌, Bool, true, false, cond, List, [], ◌++◌, append-nil, append_assoc, refl, sym, ap, subst, ◌∙◌, arith, add-one}
use Rattle.std.specs.Prelude.{Option, Some, None, SomeIff}
use Rattle.std.proofs.Math.Nat.{suc-mul}
use Rattle.std.proofs.lemmas.Bool.{cases_lt, lt-ltb, le-ltb, eq-eqb, ne_eqb}
use Rattle.nm_edge.specs.Edges.{Edge}
use Rattle.nm_edge.specs.Keys.{IsKey}
use Rattle.nm_edge.specs.Layouts.{Layout}
use Rattle.nm_edge.specs.declared.edge.Side.{Side}
use Rattle.nm_edge.specs.declared.edge.Side.TheVariants.{Left, Right}
use Rattle.nm_model.specs.declared.event.Event.TheVariants.{Look}
use Rattle.nm_model.specs.declared.event.Field.TheVariants.{Edge as EdgeOn}
use Rattle.nm_model.specs.declared.reply.Reply.TheVariants.{EdgeIs}
use Rattle.nm_model.specs.Memory.{infinity_0}
use Rattle.nm_model.specs.Searches.{side_of}
use Rattle.nm_model.specs.Walks.{Entry, WalkEnds, since_pin}
use Rattle.nm_steps.specs.Steps.{TreeView, PassView, Stepped}
use Rattle.nm_walks.specs.declared.looking.Onward.{Onward}
use Rattle.nm_calls.specs.declared.near_key.KeysWalk.{KeysWalk}
use Rattle.nm_walks.specs.declared.seek_record.ChainEdge.{ChainEdge}
use Rattle.nm_walks.specs.declared.seek_record.SeekRecord.{SeekRecord}
use Rattle.nm_walks.specs.Bounds.{reach}
use Rattle.nm_calls.specs.NearKeys.{ComesBy, HasNone, HasNoneTo, HaveNone, IsDescent, IsNearBy, IsPast, Lies, Serves, border, bound, last_border, read_on}
use Rattle.nm_walks.specs.AddedLooks.{AddsLooks}
use Rattle.nm_calls.specs.PlainWalks.{HasEndedAt, HasEndedSo}
use Rattle.nm_walks.specs.Telling.{EdgeTold, OnwardTold, IsPinnedIn}
use Rattle.nm_walks.specs.Walks.{begin, onto, chain_onto, edge_on, Reads, IsLeafRead, Walks, EndsAtLeaf, IsTooLong}
use Rattle.nm_calls.proofs.Adding.{mul_below}
use Rattle.nm_calls.proofs.MapMoments.{ends_at}
use Rattle.nm_walks.proofs.PlainLooks.{node_looks, read_grows}
use Rattle.nm_calls.proofs.PlainLooks.{looks_in, looks_then, ended_still, ends_so}
use Rattle.nm_walks.proofs.ShortWalks.{walk_comes, too_long}
use Rattle.nm_walks.proofs.Standing.{onto-edge, walk_on}

-- ---- keys that turn to the same side

both_left : (x y v : ℕ) → x < v → y < v → side_of x v ≡ side_of y v
both_left x y v one other = ap (λ (t : Bool). cond t Left Right) (lt-ltb x v one ∙ sym (lt-ltb y v other))

both_right : (x y v : ℕ) → v ≤ x → v ≤ y → side_of x v ≡ side_of y v
both_right x y v one other = ap (λ (t : Bool). cond t Left Right) (le-ltb x v one ∙ sym (le-ltb y v other))

-- ---- a walk that serves them

pub descent_begins : (L : Layout) (p q : PassView) (e : Edge) → Stepped p q (Look 2 (EdgeOn Left)) (EdgeIs e)
    → EdgeTold p q 2 Left e → (from : ℕ) → IsKey from
    → IsDescent L 0 p q (record { from = from; low = 0; high = infinity_0; node = e.slot; leaf = 0; found = 0 })
descent_begins L p q e step told from key = record {
  least = omega arith;
  most = let le = key in omega (arith, le);
  top = omega arith;
  walks = λ some. (begin e, [], refl, λ j le less. (refl, refl, some, ap (λ (s : PassView). s.view.log) step));
  known = λ some. told.learned.leads some;
  ends = λ null. absurd (told.root refl refl null);
  above = λ other. absurd (other refl);
  below = λ other. absurd (other refl);
}

-- a walk came by an internal node that it read there, and so by a later log
pub comes_there : (k n : ℕ) (old mid new : List Entry) (s : SeekRecord) (c : List ChainEdge) (on : Onward)
    (router : ℕ) → Walks k n old mid s c → Reads k s.edge.slot mid new on → on.next.slot ≢ 0 → on.found ≡ router
    → ComesBy k router old new
comes_there k n old mid new s c on router w read some is =
    (n, mid, new, [], s, c, on, w, read, some, is, sym (append-nil new))

pub comes_later : (k router : ℕ) (old mid new more : List Entry) → new ≡ mid ++ more → ComesBy k router old mid
    → ComesBy k router old new
comes_later k router old mid new more is (n, low, at, rest, s, c, on, w, read, some, found, are) = (
  n,
  low,
  at,
  rest ++ more,
  s,
  c,
  on,
  w,
  read,
  some,
  found,
  is
      ∙ (ap (λ (l : List Entry). l ++ more) are ∙ append_assoc at rest more),
)

-- what a walk for one of them reads, one for any of them does
pub read_alike : (k j x : ℕ) (old new : List Entry) (on : Onward) → side_of j on.found ≡ side_of k on.found
    → Reads k x old new on → Reads j x old new on
read_alike k j x old new on same r = (r.0, r.1, r.2, r.3 ∙ sym same, r.4)

-- a walk that has read its leaf has ended there
pub walk_ends : (L : Layout) (n j : ℕ) (old mid new : List Entry) (t : SeekRecord) (c : List ChainEdge) (on : Onward)
    → n + 2 ≤ reach L → Walks j n old mid t c → Reads j t.edge.slot mid new on → on.next.slot ≡ 0
    → EndsAtLeaf L j old new t c on.found
walk_ends L n j old mid new t c on few w read null = (n, mid, on, few, w, null, read, refl)

module _ (L : Layout) (n : ℕ) (o p q : PassView) (d : KeysWalk) (low high : ℕ) (on : Onward)
    (r : Reads d.from d.node p.view.log q.view.log on) (leaf : IsLeafRead d.node p.view.log q.view.log on)
    (w : IsDescent L n o p d) (some : d.node ≢ 0) (raised : d.low ≤ low) (lowered : high ≤ d.high)
    (passed : on.found ≤ d.from → on.found ≤ low) where
  abbrev t : SeekRecord
  t = (w.walks some).0

  abbrev c : List ChainEdge
  c = (w.walks some).1

  at : t.edge.slot ≡ d.node
  at = (w.walks some).2

  walk : (j : ℕ) → low ≤ j → j < high → Walks j n o.view.log p.view.log t c
  walk j le less = (w.walks some).3 j (omega (arith, raised, le)) (omega (arith, less, lowered))

  there : (j : ℕ) (other : Onward) → Reads j d.node p.view.log q.view.log other
      → Reads j t.edge.slot p.view.log q.view.log other
  there j other read = subst (λ (x : ℕ). Reads j x p.view.log q.view.log other) (sym at) read

  -- at its end a key on the other side of the leaf's goes right where the walk goes left, and then
  -- each of both edges is null
  at_end : n + 2 ≤ reach L → on.next.slot ≡ 0 → (j : ℕ) → low ≤ j → j < high
      → (s : SeekRecord) × (e : List ChainEdge) × EndsAtLeaf L j o.view.log q.view.log s e on.found
      × (s.edge.slot ≡ d.node)
  at_end few null j le less = by (cases_lt d.from on.found)
    where
      on_side : (d : Side) (left right : Edge) → left.slot ≡ 0 → right.slot ≡ 0 → (edge_on d left right).slot ≡ 0
      on_side Left left right none null = none
      on_side Right left right none null = null

      by : (d.from < on.found) ⊎ (on.found ≤ d.from)
          → (s : SeekRecord) × (e : List ChainEdge) × EndsAtLeaf L j o.view.log q.view.log s e on.found
          × (s.edge.slot ≡ d.node)
      by (inl below) =
          let left : on.side ≡ Left = r.3 ∙ ap (λ (b : Bool). cond b Left Right) (lt-ltb d.from on.found below) in
          let both = leaf left null in
          let mine : Onward = record {
            found = on.found;
            side = side_of j on.found;
            next = edge_on
                (side_of j on.found) both.0 both.1;
          } in (
            t,
            c,
            walk_ends L n j o.view.log p.view.log q.view.log t c mine few (walk j le less)
                (there j mine (both.0, both.1, both.2, refl, refl))
                (on_side (side_of j on.found) both.0 both.1 both.3 both.4),
            at,
          )
      by (inr above) =
          let past = passed above in
          let same = both_right j d.from on.found (omega (arith, past, le)) above in (
            t,
            c,
            walk_ends L n j o.view.log p.view.log q.view.log t c on few (walk j le less)
                (there j on (read_alike d.from j d.node p.view.log q.view.log on same r)) null,
            at,
          )

  module _ (capped : on.next.slot ≢ 0 → d.from < on.found → high ≤ on.found) where
    read : on.next.slot ≢ 0 → (j : ℕ) → low ≤ j → j < high → Reads j t.edge.slot p.view.log q.view.log on
    read more j le less = there j on (read_alike d.from j d.node p.view.log q.view.log on
        (alike (cases_lt d.from on.found)) r)
      where
        alike : (d.from < on.found) ⊎ (on.found ≤ d.from) → side_of j on.found ≡ side_of d.from on.found
        alike (inl below) = let cap = capped more below in both_left j d.from on.found (omega (arith, cap, less)) below
        alike (inr above) = let past = passed above in both_right j d.from on.found (omega (arith, past, le)) above

    -- an internal node that the walk came by before, or that it has read now
    before : (router : ℕ) → ((j : ℕ) → d.low ≤ j → j < d.high → ComesBy j router o.view.log p.view.log) → (j : ℕ)
        → low ≤ j → j < high → ComesBy j router o.view.log q.view.log
    before router came j le less = comes_later j router o.view.log p.view.log q.view.log
        (node_looks d.node on.found r.0 r.1) (read_grows d.from d.node p.view.log q.view.log on r)
        (came j (omega (arith, raised, le)) (omega (arith, less, lowered)))

    now : on.next.slot ≢ 0 → (j : ℕ) → low ≤ j → j < high → ComesBy j on.found o.view.log q.view.log
    now more j le less = comes_there j n o.view.log p.view.log q.view.log t c on on.found (walk j le less)
        (read more j le less) more refl

    pub descent_goes_on : n + 2 ≤ reach L → OnwardTold p q d.from d.node on.found on.side on.next → low ≤ d.from
        → d.from < high → (low ≡ d.low) ⊎ (low ≡ on.found) → (high ≡ d.high) ⊎ ((high ≡ on.found) × (on.next.slot ≢ 0))
        → IsDescent L (n + 1) o q (read_on d low high on)
    descent_goes_on few told least most is_low is_high = record {
      least = least;
      most = most;
      top = let top = w.top in omega (arith, lowered, top);
      walks = λ more. (
        onto t on.side on.next,
        chain_onto t c,
        ap (λ (e : Edge). e.slot)
            (onto-edge t on.side on.next),
        λ j le less. walk_on j n o.view.log p.view.log q.view.log t
            (onto t on.side on.next) c on (walk j le less) (read more j le less) refl more,
      );
      known = λ more. told.learned.leads more;
      ends = at_end few;
      above = by_high is_high;
      below = by_low is_low;
    }
      where
        Comes : ℕ → Type 0
        Comes router = (j : ℕ) → low ≤ j → j < high → ComesBy j router o.view.log q.view.log

        by_high : (high ≡ d.high) ⊎ ((high ≡ on.found) × (on.next.slot ≢ 0)) → high ≢ infinity_0 → Comes high
        by_high (inl same) other = subst Comes (sym same) (before d.high (w.above (λ top. other (same ∙ top))))
        by_high (inr (is, more)) other = subst Comes (sym is) (now more)

        kept : (low ≡ d.low) → ((d.node ≡ 0) × (d.found ≡ d.low))
            ⊎ ((j : ℕ) → d.low ≤ j → j < d.high → ComesBy j d.low o.view.log p.view.log)
            → ((on.next.slot ≡ 0) × (on.found ≡ low)) ⊎ Comes low
        kept same (inl ended) = absurd (some ended.0)
        kept same (inr came) = inr (subst Comes (sym same) (before d.low came))

        here : (low ≡ on.found) → (m : ℕ) → on.next.slot ≡ m → ((on.next.slot ≡ 0) × (on.found ≡ low)) ⊎ Comes low
        here is zero null = inl (null, sym is)
        here is (suc m) leads = inr (subst Comes (sym is) (now (λ null. omega (arith, null, leads))))

        by_low : (low ≡ d.low) ⊎ (low ≡ on.found) → low ≢ 0 → ((on.next.slot ≡ 0) × (on.found ≡ low)) ⊎ Comes low
        by_low (inl same) other = kept same (w.below (λ none'. other (same ∙ none')))
        by_low (inr is) other = here is on.next.slot refl

-- or is broken off
pub descent_too_long : (b : TreeView) (n : ℕ) (o p : PassView) (d : KeysWalk) (from : ℕ) → IsDescent b.layout n o p d
    → d.from ≡ from → IsPinnedIn b p → IsKey from → suc n ≡ reach b.layout → d.node ≢ 0
    → IsTooLong b.layout from o.view.log p.view.log
descent_too_long b n o p d from w begun pinned key all some =
    let at = w.walks some in
    too_long b from key n o.view.log at.0 at.1 p pinned
    (at.3 from (let least = w.least in omega (arith, begun, least))
    (let most = w.most in omega (arith, begun, most))) all

-- ---- by the log since the pin

-- a walk that ended at a leaf has told whether it has the key
pub ended_so : (L : Layout) (j : ℕ) (old : List Entry) (q : PassView) (s : SeekRecord) (c : List ChainEdge)
    (found : ℕ) → EndsAtLeaf L j old q.view.log s c found → HasEndedSo q j (found == j)
ended_so L j old q s c found (n, mid, on, few, w, null, read, is) =
    let come = walk_comes j n old mid s c w in
    let many = come.1 in
    subst (λ (v : ℕ). HasEndedSo q j (v == j)) is (ends_so (record q { view = record q.view { log = mid } }) q n j
    s.edge.slot on read (s.parent, s.side, come.0, omega (arith, many)) null)

-- the leaf at which a walk for its key has ended
pub ended_at : (L : Layout) (j : ℕ) (old : List Entry) (q : PassView) (s : SeekRecord) (c : List ChainEdge)
    → EndsAtLeaf L j old q.view.log s c j → HasEndedAt q j s.edge.slot
ended_at L j old q s c (n, mid, on, few, w, null, read, is) =
    let come = walk_comes j n old mid s c w in
    let many = come.1 in (
      s.parent,
      s.side,
      subst (λ (v : ℕ). WalkEnds j (since_pin [] q.view.log) s.edge.slot s.parent s.side v) is
          (ends_at (record q { view = record q.view { log = mid } }) q n j s.edge.slot on read
          (s.parent, s.side, come.0, omega (arith, many)) null),
    )

-- ---- which keys are on a side

pub lies_itself : (side : Side) (key : ℕ) → Lies side key key
lies_itself Left key = omega arith
lies_itself Right key = omega arith

lies_then : (side : Side) (a b j : ℕ) → Lies side a b → Lies side b j → Lies side a j
lies_then Left a b j one other = omega (arith, one, other)
lies_then Right a b j one other = omega (arith, one, other)

past_or : (side : Side) (j from : ℕ) → IsPast side j from ⊎ Lies side from j
past_or Left j from = cases_lt from j
past_or Right j from = cases_lt j from

past_not : (side : Side) (j : ℕ) → IsPast side j j → ⊥
past_not Left j is = omega (arith, is)
past_not Right j is = omega (arith, is)

-- a key that lies from a key on is a key, if it is passed on the way to another one
key_passed : (side : Side) (key j found : ℕ) → IsKey key → IsKey found → Lies side key j → IsPast side j found → IsKey j
key_passed Left key j found is_key high lies past = let le = is_key in omega (arith, le, lies)
key_passed Right key j found is_key high lies past = let le = high in omega (arith, le, past)

-- the keys that a walk serves are among those that go the same way
served_within : (side : Side) (d : KeysWalk) (j : ℕ) → d.low ≤ d.from → d.from < d.high → Serves side d j
    → (d.low ≤ j) × (j < d.high)
served_within Left d j least most s = (s.0, let le = s.1 in omega (arith, le, most))
served_within Right d j least most s = ((let le = s.0 in omega (arith, le, least)), s.1)

served_lies : (side : Side) (d : KeysWalk) (j : ℕ) → Serves side d j → Lies side d.from j
served_lies Left d j s = s.1
served_lies Right d j s = s.0

served_key : (side : Side) (d : KeysWalk) (j : ℕ) → IsKey d.from → d.high ≤ infinity_0 → Serves side d j → IsKey j
served_key Left d j key top s = let le = s.1 in let is = key in omega (arith, le, is)
served_key Right d j key top s = let less = s.1 in omega (arith, less, top)

-- they are those up to one that is served, and those up to the border
served_up_to : (side : Side) (d : KeysWalk) (found j : ℕ) → Serves side d found → Lies side d.from j
    → IsPast side j found → Serves side d j
served_up_to Left d found j s lies past = ((let le = s.0 in omega (arith, le, past)), lies)
served_up_to Right d found j s lies past = (lies, let less = s.1 in omega (arith, less, past))

served_until : (side : Side) (d : KeysWalk) (next j : ℕ) → bound side next ≡ border side d → Lies side d.from j
    → IsPast side j next → Serves side d j
served_until Left d next j is lies past = (omega (arith, is, past), lies)
served_until Right d next j is lies past = (lies, omega (arith, is, past))

served_all : (side : Side) (d : KeysWalk) (j : ℕ) → border side d ≡ last_border side → Lies side d.from j → IsKey j
    → Serves side d j
served_all Left d j last lies key = (omega (arith, last), lies)
served_all Right d j last lies key = (lies, let le = key in omega (arith, last, le))

-- the next key is one that lies there
next_lies_on : (side : Side) (d : KeysWalk) (next : ℕ) → d.low ≤ d.from → d.from < d.high
    → bound side next ≡ border side d → Lies side d.from next
next_lies_on Left d next least most is = omega (arith, least, is)
next_lies_on Right d next least most is = omega (arith, most, is)

next_key_on : (side : Side) (d : KeysWalk) (next : ℕ) → IsKey d.from → d.low ≤ d.from → d.high ≤ infinity_0
    → bound side next ≡ border side d → border side d ≢ last_border side → IsKey next
next_key_on Left d next key least top is other = let le = key in omega (arith, le, least, is)
next_key_on Right d next key least top is other = omega (arith, top, is, other)

-- ---- what it shows at its end

-- what walks have shown stays so under further looks
pub earlier_still : {n : ℕ} (side : Side) (p q : PassView) → AddsLooks n p.view.log q.view.log → (key from : ℕ)
    → ((j : ℕ) → Lies side key j → IsPast side j from → HasEndedSo p j false) → (j : ℕ) → Lies side key j
    → IsPast side j from → HasEndedSo q j false
earlier_still side p q a key from earlier j lies past = ended_still p q a j false (earlier j lies past)

-- of the keys from `key` on that are passed on the way to `from` the set had none, and of those that
-- the walk serves none but the one that it found
module _ (side : Side) (L : Layout) (n : ℕ) (o p : PassView) (key from : ℕ) (d : KeysWalk) (w : IsDescent L n o p d)
    (begun : d.from ≡ from) (null : d.node ≡ 0) (beyond : Lies side key from)
    (earlier : (j : ℕ) → Lies side key j → IsPast side j from → HasEndedSo p j false) where
  lies_on : (j : ℕ) → Lies side d.from j → Lies side key j
  lies_on j lies = lies_then side key d.from j (subst (Lies side key) (sym begun) beyond) lies

  ended : (j : ℕ) → Serves side d j → HasEndedSo p j (d.found == j)
  ended j serves =
      let within = served_within side d j w.least w.most serves in
      let end = w.ends null j within.0 within.1 in
      ended_so L j o.view.log p end.0 end.1 d.found end.2

  none_but : (j : ℕ) → Lies side key j → (Lies side d.from j → Serves side d j) → (d.found ≡ j → ⊥)
      → HasEndedSo p j false
  none_but j lies serves other = by (past_or side j from)
    where
      by : IsPast side j from ⊎ Lies side from j → HasEndedSo p j false
      by (inl past) = earlier j lies past
      by (inr on) = subst (HasEndedSo p j) (ne_eqb d.found j other)
          (ended j (serves (subst (λ (k : ℕ). Lies side k j) (sym begun) on)))

  -- at its leaf, if the key of the leaf is among them
  pub hit_at : Serves side d d.found → HasEndedAt p d.found d.leaf
  hit_at hit =
      let within = served_within side d d.found w.least w.most hit in
      let end = w.ends null d.found within.0 within.1 in
      subst (HasEndedAt p d.found) end.3 (ended_at L d.found o.view.log p end.0 end.1 end.2)

  -- which is the nearest key, if it is among them
  pub is_near : IsKey from → Serves side d d.found → IsNearBy side (HasEndedSo p) key (Some d.found)
  is_near is_key hit = (
    lies_on d.found (served_lies side d d.found hit),
    served_key side d d.found (subst IsKey (sym begun) is_key) w.top hit,
    subst (HasEndedSo p d.found) (eq-eqb d.found d.found refl) (ended d.found hit),
    λ j lies past. none_but j lies (λ on. served_up_to side d d.found j hit on past)
        (λ same. past_not side d.found (subst (λ (x : ℕ). IsPast side x d.found) (sym same) past)),
  )

  -- and if it is not, there is none
  module _ (miss : (j : ℕ) → Serves side d j → d.found ≢ j) where
    none_served : (j : ℕ) → Lies side key j → (Lies side d.from j → Serves side d j) → HasEndedSo p j false
    none_served j lies serves = by (past_or side j from)
      where
        by : IsPast side j from ⊎ Lies side from j → HasEndedSo p j false
        by (inl past) = earlier j lies past
        by (inr on) = let served = serves (subst (λ (k : ℕ). Lies side k j) (sym begun) on) in
            none_but j lies (λ _. served) (miss j served)

    pub none_near : border side d ≡ last_border side → IsNearBy side (HasEndedSo p) key None
    none_near last j lies is_key = none_served j lies (λ on. served_all side d j last on is_key)

    module _ (next : ℕ) (is : bound side next ≡ border side d) (other : border side d ≢ last_border side) where
      pub none_until : (j : ℕ) → Lies side key j → IsPast side j next → HasEndedSo p j false
      none_until j lies past = none_served j lies (λ on. served_until side d next j is on past)

      -- the next walk begins at a key that is beyond
      pub next_lies : Lies side key next
      next_lies = lies_on next (next_lies_on side d next w.least w.most is)

      pub next_is_key : IsKey from → IsKey next
      next_is_key is_key = next_key_on side d next (subst IsKey (sym begun) is_key) w.least w.top is other

  -- and the walk has served them
  has_none : (a b router : ℕ) → a < b → ((j : ℕ) → a ≤ j → j < b → Serves side d j)
      → ((j : ℕ) → Serves side d j → d.found ≢ j) → ((j : ℕ) → d.low ≤ j → j < d.high
      → ComesBy j router o.view.log p.view.log) → HasNone L a b router o.view.log p.view.log
  has_none a b router wide serves miss came = (
    wide,
    λ j le less. at j (serves j le less),
    λ j le less. by j
        (served_within side d j w.least w.most (serves j le less)),
  )
    where
      at : (j : ℕ) → Serves side d j → (s : SeekRecord) × (c : List ChainEdge) × (found : ℕ)
          × EndsAtLeaf L j o.view.log p.view.log s c found × (found ≢ j)
      at j served =
          let within = served_within side d j w.least w.most served in
          let end = w.ends null j within.0 within.1 in
          (end.0, end.1, d.found, end.2, miss j served)

      by : (j : ℕ) → (d.low ≤ j) × (j < d.high) → ComesBy j router o.view.log p.view.log
      by j within = came j within.0 within.1

has_none_to : (side : Side) (L : Layout) (n : ℕ) (o p : PassView) (key from : ℕ) (d : KeysWalk)
    (w : IsDescent L n o p d) → d.from ≡ from → d.node ≡ 0
    → (beyond : Lies side key from) (earlier : (j : ℕ) → Lies side key j → IsPast side j from → HasEndedSo p j false)
    → ((j : ℕ) → Serves side d j → d.found ≢ j) → border side d ≢ last_border side
    → HasNoneTo side L (bound side from) (border side d) o.view.log p.view.log
has_none_to Left L n o p key from d w begun null beyond earlier miss other =
    has_none Left L n o p key from d w begun null beyond earlier d.low (from + 1) d.low
    (let least = w.least in omega (arith, least, begun)) (λ j le less. (le, omega (arith, less, begun))) miss
    (by (w.below other))
  where
    by : ((d.node ≡ 0) × (d.found ≡ d.low)) ⊎ ((j : ℕ) → d.low ≤ j → j < d.high
        → ComesBy j d.low o.view.log p.view.log) → (j : ℕ) → d.low ≤ j → j < d.high
        → ComesBy j d.low o.view.log p.view.log
    by (inl at) = absurd (miss d.low (omega arith, w.least) at.1)
    by (inr came) = came
has_none_to Right L n o p key from d w begun null beyond earlier miss other =
    has_none Right L n o p key from d w begun null beyond earlier from d.high d.high
    (let most = w.most in omega (arith, most, begun)) (λ j le less. (omega (arith, le, begun), less)) miss
    (w.above other)

-- one walk more
pub none_more : (side : Side) (L : Layout) (n : ℕ) (o p : PassView) (key from : ℕ) (d : KeysWalk)
    (w : IsDescent L n o p d) → d.from ≡ from → d.node ≡ 0
    → (beyond : Lies side key from) (earlier : (j : ℕ) → Lies side key j → IsPast side j from → HasEndedSo p j false)
    → ((j : ℕ) → Serves side d j → d.found ≢ j) → (next : ℕ) → bound side next ≡ border side d
    → border side d ≢ last_border side → (m : ℕ) (old : List Entry)
    → HaveNone side L m key (bound side from) old o.view.log
    → HaveNone side L (m + 1) key (bound side next) old p.view.log
none_more side L n o p key from d w begun null beyond earlier miss next is other m old before =
    rw add-one (
      o.view.log,
      bound side from,
      before,
      subst
          (λ (x : ℕ). HasNoneTo side L (bound side from) x o.view.log p.view.log) (sym is)
          (has_none_to side L n o p key from d w begun null beyond earlier miss other),
    )

-- ---- walks one after the other

-- so many, and one more
pub walks_then : (n most : ℕ) (old mid new : List Entry) → AddsLooks (n * most) old mid → AddsLooks most mid new
    → AddsLooks ((n + 1) * most) old new
walks_then n most old mid new a b = looks_in ((n + 1) * most) old new
    (let more = suc-mul n most in omega (arith, more)) (looks_then old mid new a b)

-- which are no more than the tries
pub walks_within : (n tries most : ℕ) (old mid new : List Entry) → n < tries → AddsLooks (n * most) old mid
    → AddsLooks most mid new → AddsLooks (tries * most) old new
walks_within n tries most old mid new less a b = looks_in (tries * most) old new
    (let few = mul_below n tries most less in omega (arith, few)) (looks_then old mid new a b)

-- ---- from what walks show to what was so

pub near_by : (side : Side) (A B : ℕ → Bool → Type 0) → ((k : ℕ) (b : Bool) → IsKey k → A k b → B k b) → (key : ℕ)
    → IsKey key → (r : Option ℕ) → IsNearBy side A key r → IsNearBy side B key r
near_by side A B on key is_key (Some found) n = (
  n.0,
  n.1,
  on found true n.1 n.2,
  λ j lies past. on j false
      (key_passed side key j found is_key n.1 lies past) (n.3 j lies past),
)
near_by side A B on key is_key None n = λ j lies is. on j false is (n j lies is)

-- a key that was made of a number is that number
pub key_made : (o : Option ℕ) (v : ℕ) (P : Option ℕ → Type 0) → IsKey v → SomeIff o (IsKey v) v → P (Some v) → P o
key_made None v P key made is = absurd (made key)
key_made (Some x) v P key made is = subst (λ (n : ℕ). P (Some n)) (sym made.1) is
