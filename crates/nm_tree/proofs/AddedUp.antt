-- What the workers of a tree without a call have linked is what they have flagged and what is left.
use Rattle.std.proofs.Common.{◌≡◌, ◌∙◌, ◌⊎◌, inl, inr, ℕ, suc, ◌+◌, ◌<◌, ◌≤◌, ◌↔◌, cond, true, false, List, [], ◌∷◌, ◌++◌, length, length-append, refl, sym, ap, arith}
use Rattle.std.specs.Prelude.{All, AllPairs, Bool, Contains, None, Result, filter}
use Rattle.std.proofs.lemmas.Bool.{cases_lt}
use Rattle.nm_edge.specs.Keys.{IsKey}
use Rattle.nm_edge.specs.Layouts.{Layout, IsLayout}
use Rattle.nm_model.specs.declared.event.Event.{Event}
use Rattle.nm_model.specs.declared.event.Op.{Op}
use Rattle.nm_model.specs.declared.event.Op.TheVariants.{Delete, Insert}
use Rattle.nm_model.specs.declared.reply.Refused.{Refused}
use Rattle.nm_model.specs.declared.reply.Reply.{Reply}
use Rattle.nm_model.specs.declared.trace.Turn.{Turn}
use Rattle.nm_model.specs.Acts.{InSet}
use Rattle.nm_model.specs.Histories.{call_begun}
use Rattle.nm_model.specs.Memory.{infinity_0}
use Rattle.nm_model.specs.Ordered.{HasKey, after_in, ordered, trace_in}
use Rattle.nm_model.specs.Walks.{Entry}
use Rattle.nm_laws.proofs.ListOrders.{contained_in, in_contained}
use Rattle.nm_order.specs.Exchanges.{is_won_link}
use Rattle.nm_order.specs.Totals.{Agree, flags_of, is_so, links_of}
use Rattle.nm_order.specs.WalksToArrivals.{is_won_flag}
use Rattle.nm_order.proofs.TotalsOfRuns.{each_total_is_the_set}
use Rattle.nm_tree.specs.Closing.{KeysAddUp, won_in}
use Rattle.nm_tree.specs.Running.{wins}
use Rattle.nm_tree.proofs.EndLaws.{enough_nodes}
use Rattle.nm_tree.proofs.RunSums.{KeysOf, flag_keys, link_keys, none_pend, one_if, same_length, so_many, times, times-append, times_none, times_once}
use Rattle.nm_tree.proofs.TurnTotals.{wins_flags, wins_links}

-- a turn that is kept counts once
kept_once : (b : Bool) (t : Turn) (ts : List Turn) → length (cond b (t ∷ ts) ts) ≡ one_if b + length ts
kept_once true t ts = let same : suc (length ts) ≡ 1 + length ts = omega arith in same
kept_once false t ts = let same : length ts ≡ 0 + length ts = omega arith in same

-- exchanges of one kind, counted on turns
pub won_are : (op : Op) (is_such : Entry → Bool)
    → ((e : Event) (o : Result Reply Refused) → wins op e o ≡ is_so is_such e o) → (turns : List Turn)
    → won_in op turns ≡ so_many is_such turns
won_are op is_such table [] = refl
won_are op is_such table (t ∷ ts) =
    let kept = kept_once (wins op t.event t.outcome) t (filter (λ u. wins op u.event u.outcome) ts) in
    let here = ap one_if (table t.event t.outcome) in
    let rest = won_are op is_such table ts in
    omega (arith, kept, here, rest)

pub links_won : (turns : List Turn) → won_in Insert turns ≡ so_many is_won_link turns
links_won = won_are Insert is_won_link wins_links

pub flags_won : (turns : List Turn) → won_in Delete turns ≡ so_many is_won_flag turns
flags_won = won_are Delete is_won_flag wins_flags

module _ (L : Layout) (fits : IsLayout L) (events : List (ℕ × Event)) (for_keys : All (λ t. HasKey t.1) events)
    (kept : List ℕ)
    (set : (k : ℕ) → Contains kept k ↔ InSet (after_in (ordered L) events).state.memory k × (k < infinity_0))
    (ascend : AllPairs (λ j k. j < k) kept) where
  enough : 5 ≤ L.nodes
  enough = enough_nodes L fits

  links : KeysOf is_won_link L events
  links = link_keys L enough events for_keys

  flags : KeysOf is_won_flag L events
  flags = flag_keys L enough events for_keys

  module _ (rest : (w : ℕ) → call_begun w (trace_in (ordered L) events) ≡ None) where
    agree : (k : ℕ) → IsKey k
        → Agree (links_of k L events) (flags_of k L events) (InSet (after_in (ordered L) events).state.memory k)
    agree k key = each_total_is_the_set L enough events for_keys (none_pend L enough events for_keys rest) k key

    of_key : (k : ℕ) → IsKey k → times k links.keys ≡ times k flags.keys + times k kept
    of_key k key = on (agree k key)
      where
        on : Agree (links_of k L events) (flags_of k L events) (InSet (after_in (ordered L) events).state.memory k)
            → times k links.keys ≡ times k flags.keys + times k kept
        on (inl so) =
            let once = times_once k kept ascend (contained_in kept k ((set k).1 (so.1, omega (arith, key)))) in
            let l = links.each k in let f = flags.each k in let more = so.0 in
            omega (arith, once, l, f, more)
        on (inr so) =
            let none = times_none k kept (λ there. so.1 ((set k).0 (in_contained kept k there)).0) in
            let l = links.each k in let f = flags.each k in let more = so.0 in
            omega (arith, none, l, f, more)

    no_key : (k : ℕ) → infinity_0 ≤ k → times k links.keys ≡ times k flags.keys + times k kept
    no_key k high =
        let a = times_none k links.keys (λ there. let is = links.are k there in absurd (omega (arith, is, high))) in
        let b = times_none k flags.keys (λ there. let is = flags.are k there in absurd (omega (arith, is, high))) in
        let c = times_none k kept (λ there. let less =
        ((set k).0 (in_contained kept k there)).1 in absurd (omega (arith, less, high))) in
        omega (arith, a, b, c)

    each : (k : ℕ) → times k links.keys ≡ times k (flags.keys ++ kept)
    each k = by (cases_lt k infinity_0) ∙ sym (times-append k flags.keys kept)
      where
        by : (k < infinity_0) ⊎ (infinity_0 ≤ k) → times k links.keys ≡ times k flags.keys + times k kept
        by (inl less) = of_key k (omega (arith, less))
        by (inr high) = no_key k high

  pub add_up : KeysAddUp (trace_in (ordered L) events) kept
  add_up rest =
      let one = same_length links.keys (flags.keys ++ kept) (each rest) in
      let size = length-append flags.keys kept in
      let l = links.many in let f = flags.many in
      let a = links_won (trace_in (ordered L) events) in
      let b = flags_won (trace_in (ordered L) events) in
      omega (arith, one, size, l, f, a, b)
