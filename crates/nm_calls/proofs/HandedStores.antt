-- The value that a leaf has right before its cut is the one that was stored for the leaf.
use Rattle.std.proofs.Common.{◌≡◌, ◌⊎◌, inl, inr, ℕ, ◌+◌, ◌<◌, true, List, [], ◌∷◌, ◌++◌, append_assoc, length, sym, ap, subst, ◌∙◌, arith}
use Rattle.std.specs.Prelude.{All, AllPairs, Contains, Ok}
use Rattle.std.proofs.lemmas.List.{length-append}
use Rattle.std.proofs.lemmas.List.Elements.{Contains-append_left}
use Rattle.nm_edge.specs.Layouts.{IsLayout, Layout}
use Rattle.nm_edge.specs.declared.node.NodeId.{NodeId}
use Rattle.nm_model.specs.declared.event.Event.{Event}
use Rattle.nm_model.specs.declared.reply.Reply.{Reply}
use Rattle.nm_model.specs.declared.trace.Turn.{Turn}
use Rattle.nm_model.specs.Headline.{CutsItsNodes, Headline, cuts_of, nodes_cut_of, words_after}
use Rattle.nm_model.specs.Headline.Place.{InHands, OnPath}
use Rattle.nm_model.specs.Memory.{Memory, named}
use Rattle.nm_model.specs.Ordered.{HasKey, after_in, ordered, outcome_in, trace_in}
use Rattle.nm_model.specs.Paths.{Reached}
use Rattle.nm_laws.proofs.Configurations.{allowed_by_state}
use Rattle.nm_laws.proofs.Steps.{allowed}
use Rattle.nm_order.specs.Logs.{part_of}
use Rattle.nm_order.proofs.PinNumbers.{length_trace}
use Rattle.nm_order.proofs.RunExchanges.{first_keys}
use Rattle.nm_order.proofs.StaleRuns.{layout_is}
use Rattle.nm_order.proofs.WalksOfRuns.{trace_in-append}
use Rattle.nm_theorem.proofs.FreedOfRuns.{cuts-append}
use Rattle.nm_theorem.proofs.HeadlineOfRuns.{each_run_has_it}
use Rattle.nm_theorem.proofs.StaysOfRuns.{was_allowed}
use Rattle.nm_theorem.proofs.Runs.{Parts, parts_of}
use Rattle.nm_theorem.proofs.WrittenWords.{run_words}
use Rattle.nm_steps.specs.declared.view.Stored.{Stored}
use Rattle.nm_steps.specs.Rules.{ComesBefore, IsStored, WereHeld, answered_turn}
use Rattle.nm_steps.proofs.LinkedValues.{NobodyHoldsUntil, entries, value_since_link}
use Rattle.nm_steps.proofs.ValueStays.{value_before}
use Rattle.nm_walks.proofs.Looks.{enough}
use Rattle.nm_calls.specs.HandedBack.{WasCutWith}
use Rattle.nm_calls.specs.KeptValues.{NoneCuts}
use Rattle.nm_calls.specs.Maps.{HoldsStores, WasInHands}
use Rattle.nm_calls.specs.OnceBack.{HasPutIn, IsStoreOf, LinksIn, SwapsIn, ValuesComeBackAsStored}
use Rattle.nm_calls.proofs.KeptLeaves.{one_holds, unheld_until}
use Rattle.nm_calls.proofs.LeavesInHands.{in_hands_then, leaf_held, leaf_high, leaf_low, leaf_named, leaf_reached}
use Rattle.nm_calls.proofs.MadeLeaves.{LastEvent, last_event}
use Rattle.nm_calls.proofs.OneStore.{one_store}
use Rattle.nm_calls.proofs.OnceBack.{IsAnswered, TwoPlaces, one_entry, part_append, put_answered, two_places}
use Rattle.nm_calls.proofs.OnceBack.TwoPlaces.{AreOne, IsEarlier, IsLater}
use Rattle.nm_calls.proofs.ReachedNodes.{NodeFate, cut_has_birth, cut_is_named, node_fate_then, now_cut}
use Rattle.nm_calls.proofs.ReachedNodes.NodeFate.{StaysIn, WasCutOff}
use Rattle.nm_calls.proofs.StoresInTurns.{were_held}
use Rattle.nm_calls.proofs.Unheld.{not_place}

-- ---- from a link or a swap until a moment before which no turn cuts the leaf

module _ (L : Layout) (fits : IsLayout L) (events : List (ℕ × Event)) (keys : All (λ t. HasKey t.1) events)
    (before mid rest : List Turn) (w : ℕ) (e : Event) (r : Reply) (its : Turn) (its_is : its ≡ answered_turn w e r)
    (are : trace_in (ordered L) events ≡ (before ++ its ∷ []) ++ (mid ++ rest)) (s : ℕ)
    (reached : Reached (words_after L (before ++ its ∷ [])) s) (uncut : NoneCuts mid s)
    (stores : List Stored) (held : WereHeld L events stores) (order : AllPairs ComesBefore stores)
    (at : IsStored stores w (length (part_of w before)) s) where
  a : Parts (ordered L) events (before ++ its ∷ []) (mid ++ rest)
  a = parts_of (ordered L) events (before ++ its ∷ []) (mid ++ rest) are

  b : Parts (after_in (ordered L) a.early) a.late mid rest
  b = parts_of (after_in (ordered L) a.early) a.late mid rest (sym a.rest_is)

  l : LastEvent (ordered L) a.early before its
  l = last_event before a.early (ordered L) its (sym a.first_is)

  abbrev event : ℕ × Event
  event = (w, e)

  last_is : l.last ≡ event
  last_is = λ i. ((ap (λ (t : Turn). t.worker) (l.is ∙ its_is)) i, (ap (λ (t : Turn). t.event) (l.is ∙ its_is)) i)

  abbrev linked : List (ℕ × Event)
  linked = l.first ++ event ∷ []

  linked_is : a.early ≡ linked
  linked_is = l.are ∙ ap (λ (e : ℕ × Event). l.first ++ e ∷ []) last_is

  all : events ≡ linked ++ (b.early ++ b.late)
  all = a.all ∙ (λ i. linked_is i ++ b.all i)

  whole : events ≡ l.first ++ event ∷ (b.early ++ b.late)
  whole = all ∙ append_assoc l.first (event ∷ []) (b.early ++ b.late)

  all_keys : All (λ t. HasKey t.1) (linked ++ (b.early ++ b.late))
  all_keys = subst (λ (ts : List (ℕ × Event)). All (λ t. HasKey t.1) ts) all keys

  traced : trace_in (ordered L) linked ≡ before ++ its ∷ []
  traced = ap (trace_in (ordered L)) (sym linked_is) ∙ (sym a.first_is)

  middle : trace_in (after_in (ordered L) linked) b.early ≡ mid
  middle = ap (λ (ts : List (ℕ × Event)). trace_in (after_in (ordered L) ts) b.early) (sym linked_is) ∙ sym b.first_is

  long : length (linked ++ b.early) ≡ length ((before ++ its ∷ []) ++ mid)
  long =
      sym (length_trace (ordered L) (linked ++ b.early))
      ∙ ap (λ (ts : List Turn). length ts) (trace_in-append (ordered L) linked b.early ∙ (λ i. traced i ++ middle i))

  reached_here : Reached (after_in (ordered L) linked).state.memory s
  reached_here = subst (λ (m : Memory). Reached m s) (ap (words_after L) (sym traced) ∙ run_words L fits true linked)
      reached

  free : NobodyHoldsUntil L events (length linked) (length (linked ++ b.early) + 1) s
  free =
      subst (λ (ts : List (ℕ × Event)). NobodyHoldsUntil L ts (length linked) (length (linked ++ b.early) + 1) s)
      (sym all)
      (unheld_until L (enough L fits) linked b.early b.late all_keys s reached_here
      (subst (λ (ts : List Turn). NoneCuts ts s) (sym middle) uncut))

  grows : entries L w l.first < entries L w linked
  grows =
      let here = ap (λ (ts : List Turn). length (part_of w ts)) l.firsts in
      let there = ap (λ (ts : List Turn). length (part_of w ts)) traced ∙ part_append w before (its ∷ []) in
      let one = ap (λ (t : Turn). length (part_of w (t ∷ []))) its_is ∙ one_entry w e r [] in
      omega (arith, here, there, one)

  abbrev at_event : IsStored stores w (entries L w l.first) s
  at_event = record {
    stored = at.stored;
    there = at.there;
    by_worker = at.by_worker;
    at_own = at.at_own ∙ ap (λ (ts : List Turn). length (part_of w ts)) (sym l.firsts);
    for_slot = at.for_slot;
  }

  won : outcome_in (after_in (ordered L) l.first) event ≡ Ok r
  won = ap (outcome_in (after_in (ordered L) l.first)) (sym last_is) ∙ ap (λ (t : Turn). t.outcome) (l.is ∙ its_is)

  worker : w < L.workers
  worker =
      let c = after_in (ordered L) l.first in
      subst (λ (M : Layout). w < M.workers) (layout_is L (enough L fits) l.first
      (first_keys l.first (event ∷ []) (first_keys linked (b.early ++ b.late) all_keys)))
      (allowed c.state w e (allowed_by_state c w e (was_allowed c event r won))).worker

  pub value_until_cut : value_before (length ((before ++ its ∷ []) ++ mid)) stores s ≡ at.stored.value
  value_until_cut =
      ap (λ (n : ℕ). value_before n stores s) (sym long)
      ∙ (let size = length-append l.first (event ∷ []) in
      let more = length-append linked b.early in
      value_since_link L events stores held order l.first (b.early ++ b.late) w s e whole worker grows
      (one_holds L (enough L fits) events keys s) at_event (length (linked ++ b.early)) (omega (arith, size, more))
      (λ now later is least most u. free now later is (omega (arith, least, size)) (omega (arith, most)) u))

-- ---- a leaf that was cut

module _ (L : Layout) (fits : IsLayout L) (events : List (ℕ × Event)) (keys : All (λ t. HasKey t.1) events)
    (from : List Turn) (stores : List Stored) (all_held : HoldsStores L from (trace_in (ordered L) events) stores)
    (n : NodeId) (v : ℕ) (was : WasCutWith L (trace_in (ordered L) events) stores n v) (x : Stored)
    (there : Contains stores x) (is : IsStoreOf L (trace_in (ordered L) events) x n) where
  abbrev turns : List Turn
  turns = trace_in (ordered L) events

  h : Headline L turns
  h = each_run_has_it L fits true events keys

  abbrev lk : HasPutIn L turns x.worker n
  lk = is.put_in

  abbrev turn : Turn
  turn = lk.put

  answered : IsAnswered x.worker turn
  answered = put_answered L turns x.worker n lk

  abbrev so_far : List Turn
  so_far = lk.before ++ turn ∷ []

  hands : WasInHands L turns x
  hands = in_hands_then L from turns stores all_held x there

  reached_then : Reached (words_after L so_far) n.slot
  reached_then = leaf_reached L turns h x n is hands

  named_then : named (words_after L so_far) n.slot ≡ n
  named_then = leaf_named L turns x n is

  cuts : CutsItsNodes (words_after L was.before) was.cut
  cuts = h.cuts was.before was.since was.cut was.are

  -- it had not been cut before
  not_yet : (w : ℕ) (first rest : List Turn) → was.before ≡ first ++ rest → Contains (cuts_of w first) n → ⊥
  not_yet w first rest parts c =
      let born = ap (λ (m : NodeId). m.birth) (cut_has_birth (words_after L was.before) was.cut cuts n was.cuts) in
      let less = h.younger was.before (was.cut ∷ was.since) was.are w n
      (subst (λ (ns : List NodeId). Contains ns n) (sym (ap (cuts_of w) parts ∙ cuts-append w first rest))
      (Contains-append_left (cuts_of w first) (cuts_of w rest) n c)) was.reached in
      omega (arith, born, less)

  -- nor between the turn that put it in and the cut
  uncut : (mid : List Turn) → was.before ≡ so_far ++ mid → NoneCuts mid n.slot
  uncut mid parts before since t at c = by (node_fate_then L turns h n.slot (leaf_low L turns h x n is hands)
      (leaf_high L turns h x n is hands) so_far before (t ∷ (since ++ was.cut ∷ was.since)) moment reached_then)
    where
      inside : was.before ≡ (so_far ++ before) ++ t ∷ since
      inside = parts ∙ (ap (λ (ts : List Turn). so_far ++ ts) at ∙ sym (append_assoc so_far before (t ∷ since)))

      moment : turns ≡ (so_far ++ before) ++ t ∷ (since ++ was.cut ∷ was.since)
      moment = was.are ∙ (ap (λ (ts : List Turn). ts ++ was.cut ∷ was.since) inside
          ∙ append_assoc (so_far ++ before) (t ∷ since) (was.cut ∷ was.since))

      now : CutsItsNodes (words_after L (so_far ++ before)) t
      now = h.cuts (so_far ++ before) (since ++ was.cut ∷ was.since) t moment

      by : NodeFate L (so_far ++ before) (named (words_after L so_far) n.slot) → ⊥
      by (StaysIn r born) =
          not_yet t.worker ((so_far ++ before) ++ t ∷ []) since
          (inside ∙ sym (append_assoc (so_far ++ before) (t ∷ []) since))
          (now_cut (so_far ++ before) t n (subst (λ (m : NodeId). Contains (nodes_cut_of t.outcome) m)
          ((λ i. record { slot = n.slot; birth = born i }) ∙ named_then)
          (cut_is_named (words_after L (so_far ++ before)) t now n.slot c)))
      by (WasCutOff w c') = not_yet w (so_far ++ before) (t ∷ since) inside
          (subst (λ (m : NodeId). Contains (cuts_of w (so_far ++ before)) m) named_then c')

  value_by : (mid : List Turn) → was.before ≡ so_far ++ mid → v ≡ x.value
  value_by mid parts =
      sym was.has_value
      ∙ (ap (λ (ts : List Turn). value_before (length ts) was.first n.slot) parts
      ∙ (value_until_cut L fits events keys lk.before mid
      (was.cut ∷ was.since) x.worker answered.event answered.reply turn answered.is
      (was.are ∙ (ap (λ (ts : List Turn). ts ++ was.cut ∷ was.since) parts
      ∙ append_assoc so_far mid (was.cut ∷ was.since)))
      n.slot reached_then (uncut mid parts) was.first
      (were_held L fits events was.stored.until was.stored.ends.more was.stored.ends.is was.first was.stored.held)
      was.stored.order first_at
      ∙ ap (λ (y : Stored). y.value) same))
    where
      until_is : was.stored.until ≡ lk.before ++ turn ∷ (mid ++ was.stored.from.more)
      until_is =
          was.stored.from.is
          ∙ (ap (λ (ts : List Turn). ts ++ was.stored.from.more) parts
          ∙ (append_assoc so_far mid was.stored.from.more
          ∙ append_assoc lk.before (turn ∷ []) (mid ++ was.stored.from.more)))

      first_at : IsStored was.first x.worker (length (part_of x.worker lk.before)) n.slot
      first_at = by lk.way
        where
          by : LinksIn (words_after L lk.before) x.worker turn n ⊎ SwapsIn (words_after L lk.before) x.worker turn n
              → IsStored was.first x.worker (length (part_of x.worker lk.before)) n.slot
          by (inl l) =
              subst (λ (s : ℕ). IsStored was.first x.worker (length (part_of x.worker lk.before)) s)
              (sym (ap (λ (m : NodeId). m.slot) l.is))
              (was.stored.linked lk.before (mid ++ was.stored.from.more) x.worker l.parent l.side l.on l.old l.new
              l.node
              (until_is ∙ ap (λ (t : Turn). lk.before ++ t ∷ (mid ++ was.stored.from.more)) l.is_link) l.beside)
          by (inr k) =
              was.stored.swapped lk.before (mid ++ was.stored.from.more) x.worker k.parent k.side k.old n.slot k.nodes
              (until_is ∙ ap (λ (t : Turn). lk.before ++ t ∷ (mid ++ was.stored.from.more)) k.is_swap)

      same : first_at.stored ≡ x
      same = one_store stores all_held.order first_at.stored x
          (subst (λ (ys : List Stored). Contains ys first_at.stored) (sym was.extends.is)
          (Contains-append_left was.first was.extends.more first_at.stored first_at.there)) there
          first_at.by_worker (first_at.at_own ∙ sym is.own)

  pub value_as_stored : v ≡ x.value
  value_as_stored = by (two_places lk.before lk.since was.before was.since turn was.cut (sym lk.are ∙ was.are))
    where
      by : TwoPlaces lk.before lk.since was.before was.since turn was.cut → v ≡ x.value
      by (AreOne same it) = absurd (
          let low = leaf_low L turns h x n is hands in
          let most = leaf_high L turns h x n is hands in
          let place = h.places lk.before (turn ∷ lk.since) lk.are n.slot low most in
          let r : Reached (words_after L lk.before) n.slot = subst
          (λ (ts : List Turn). Reached (words_after L ts) n.slot) (sym same) was.reached in
          not_place x.worker r.path (place.only (InHands x.worker) (leaf_held L turns h x n is hands)
          ∙ sym (place.only (OnPath r.path) r.ends)))
      by (IsLater mid rest parts) = value_by mid (parts ∙ sym (append_assoc lk.before (turn ∷ []) mid))
      by (IsEarlier mid rest parts) = absurd (
          let less = h.younger so_far lk.since (lk.are ∙ sym (append_assoc lk.before (turn ∷ []) lk.since))
          was.cut.worker n
          (subst (λ (ns : List NodeId). Contains ns n)
          (sym (ap (cuts_of was.cut.worker) (ap (λ (ts : List Turn). ts ++ turn ∷ []) parts
          ∙ (append_assoc was.before (was.cut ∷ mid) (turn ∷ [])
          ∙ sym (append_assoc was.before (was.cut ∷ []) (mid ++ turn ∷ []))))
          ∙ cuts-append was.cut.worker (was.before ++ was.cut ∷ []) (mid ++ turn ∷ [])))
          (Contains-append_left (cuts_of was.cut.worker (was.before ++ was.cut ∷ []))
          (cuts_of was.cut.worker (mid ++ turn ∷ [])) n (now_cut was.before was.cut n was.cuts))) reached_then in
          let born = ap (λ (m : NodeId). m.birth) named_then in
          omega (arith, less, born))

pub values_come_back_as_stored : ValuesComeBackAsStored
values_come_back_as_stored L fits events keys from stores held n v was x there is = value_as_stored L fits events
    keys from stores held n v was x there is
