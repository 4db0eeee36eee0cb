-- What a set has that one worker has filled, beside which no other one has made a turn.
use Rattle.std.proofs.Common.{◌≡◌, ◌∙◌, ◌⊎◌, inl, inr, ℕ, suc, ◌+◌, ◌<◌, ◌≤◌, ◌==◌, Bool, true, false, List, [], ◌∷◌, length, refl, sym, ap, subst, arith, ne_eqb}
use Rattle.std.proofs.lemmas.Bool.{eqb-true, eqb-false}
use Rattle.std.specs.Prelude.{filter, Contains, None, Ok}
use Rattle.nm_edge.specs.Layouts.{Layout, IsLayout}
use Rattle.nm_edge.specs.declared.placement.Fit.{Fit}
use Rattle.nm_laws.proofs.ListOrders.{In, contained_in, in_contained}
use Rattle.nm_model.specs.Acts.{InSet}
use Rattle.nm_model.specs.Headline.{words_after}
use Rattle.nm_model.specs.Memory.{Memory}
use Rattle.nm_model.specs.Ordered.{after_in, ordered, trace_in}
use Rattle.nm_model.specs.Walks.{Entry}
use Rattle.nm_model.specs.Histories.{AnswerStands}
use Rattle.nm_model.specs.declared.event.Event.{Event}
use Rattle.nm_model.specs.declared.event.Event.TheVariants.{Join, LeaveWith}
use Rattle.nm_model.specs.declared.event.Op.TheVariants.{Insert}
use Rattle.nm_model.specs.declared.reply.Reply.{Reply}
use Rattle.nm_model.specs.declared.trace.Turn.{Turn}
use Rattle.nm_order.specs.Exchanges.{is_won_link}
use Rattle.nm_order.specs.Logs.{part_of}
use Rattle.nm_order.specs.Totals.{Agree, NothingIsPending, flags_of, links_of}
use Rattle.nm_order.specs.WalksToArrivals.{is_won_flag}
use Rattle.nm_order.proofs.TotalsOfRuns.{each_total_is_the_set}
use Rattle.nm_theorem.proofs.Runs.{enough_of}
use Rattle.nm_theorem.proofs.WrittenWords.{run_words}
use Rattle.nm_steps.specs.declared.view.View.{View}
use Rattle.nm_steps.specs.Steps.{TreeView, PassView, HasSeen}
use Rattle.nm_steps.proofs.Seeing.{seen_itself}
use Rattle.nm_walks.specs.WonCounts.{won_flags, won_links}
use Rattle.nm_calls.specs.declared.fault.CallFault.TheVariants as fault
use Rattle.nm_tree.specs.Running.{HasSeenTurns}
use Rattle.nm_tree.specs.Workers.{WorkerView}
use Rattle.nm_set.specs.Filling.{HasFilled, HasInserted, HasInsertedKey, HoldsJust, OthersRest, RiseFrom}
use Rattle.nm_set.specs.Managed.{Manages, SaysManaged}
use Rattle.nm_set.specs.Seats.{IsNewMember, MemberView}
use Rattle.nm_set.specs.declared.managed.Options.{Options}
use Rattle.nm_tree.proofs.AnswersInRuns.{AnsweredBy, answered_by}
use Rattle.nm_set.proofs.Counting.{flagged_once, linked_once}
use Rattle.nm_set.proofs.Managing.{follows_then, is_no_fault}
use Rattle.nm_set.proofs.Rests.{at_most, rests_below}
use Rattle.nm_tree.proofs.RunSums.{KeysOf, by_workers, flag_keys, link_keys, one_if, own_many, so_many, taken_out, times}

-- ---- numbers that ascend

rise_above : (low : ℕ) (ks : List ℕ) (k : ℕ) → RiseFrom low ks → In ks k → low ≤ k
rise_above low [] k up there = absurd there
rise_above low (x ∷ ks) k up (inl is) = let less = up.0 in omega (arith, less, is)
rise_above low (x ∷ ks) k up (inr there) = let less = up.0 in let more = rise_above (suc x) ks k up.1 there in
    omega (arith, less, more)

is_in : (k : ℕ) (ks : List ℕ) → In ks k ⊎ (In ks k → ⊥)
is_in k [] = inr (λ there. there)
is_in k (x ∷ ks) = by (x == k) refl (is_in k ks)
  where
    by : (b : Bool) → (x == k) ≡ b → In ks k ⊎ (In ks k → ⊥) → In (x ∷ ks) k ⊎ (In (x ∷ ks) k → ⊥)
    by true is rest = inl (inl (sym (eqb-true x k is)))
    by false is (inl there) = inl (inr there)
    by false is (inr none) = inr (λ there. go there)
      where
        go : In (x ∷ ks) k → ⊥
        go (inl same) = eqb-false x k is (sym same)
        go (inr there) = none there

-- a number is in a list no more often than the list is long
times_few : (k : ℕ) (xs : List ℕ) → times k xs ≤ length xs
times_few k [] = omega arith
times_few k (x ∷ xs) = by (x == k) refl (times_few k xs)
  where
    by : (b : Bool) → (x == k) ≡ b → times k xs ≤ length xs → times k (x ∷ xs) ≤ length (x ∷ xs)
    by true is less = let one : one_if (x == k) ≡ 1 = ap (λ (b : Bool). one_if b) is in omega (arith, one, less)
    by false is less = let none : one_if (x == k) ≡ 0 = ap (λ (b : Bool). one_if b) is in omega (arith, none, less)

not_there : (x k : ℕ) → (x ≡ k → ⊥) → one_if (x == k) ≡ 0
not_there x k ne = ap (λ (b : Bool). one_if b) (ne_eqb x k ne)

-- a list that has each of these numbers, and is not longer, has no other number
no_others : (low : ℕ) (ks xs : List ℕ) → RiseFrom low ks → ((k : ℕ) → In ks k → 1 ≤ times k xs)
    → length xs ≤ length ks → (k : ℕ) → (In ks k → ⊥) → times k xs ≡ 0
no_others low [] xs up each short k none = let few = times_few k xs in omega (arith, few, short)
no_others low (x ∷ ks) xs up each short k none =
    let t = taken_out x xs (each x (inl refl)) in
    let size = t.size in
    let here = t.each k in
    let other = not_there x k (λ e. none (inl (sym e))) in
    let rest = no_others (suc x) ks t.rest up.1 (λ j there.
    let above = rise_above (suc x) ks j up.1 there in
    let at = t.each j in
    let ne = not_there x j (λ e. absurd (omega (arith, above, e))) in
    let some' = each j (inr there) in
    omega (arith, at, ne, some')) (omega (arith, size, short)) k (λ there. none (inr there)) in
    omega (arith, here, other, rest)

-- ---- one worker has filled the set

module _ (z : PassView) (ks : List ℕ) (seen : HasSeen z.view) (turns : HasSeenTurns z.view)
    (fits : IsLayout z.view.layout) (rest : OthersRest z)
    (links : won_links z.view.log ≡ length ks) (flags : won_flags z.view.log ≡ 0) (up : RiseFrom 0 ks)
    (each : (k : ℕ) → Contains ks k → HasInsertedKey k z) where
  abbrev L : Layout
  L = z.view.layout

  abbrev all : List (ℕ × Event)
  all = seen.events

  enough : 5 ≤ L.nodes
  enough = enough_of L fits

  own : part_of z.view.number (trace_in (ordered L) all) ≡ z.view.log
  own = ap (part_of z.view.number) (sym seen.are) ∙ seen.is_part

  below : (t : Turn) (r : Reply) → In (trace_in (ordered L) all) t → t.outcome ≡ Ok r → t.worker < L.workers
  below t r there told = turns.workers t r (in_contained z.view.past t
      (subst (λ (ts : List Turn). In ts t) (sym seen.are) there)) told

  most : (is_such : Entry → Bool) (no_join : (v : ℕ) (r : Reply) → is_such (Join v, r) ≡ false)
      → so_many is_such (trace_in (ordered L) all) ≤ length (filter is_such z.view.log)
  most is_such no_join =
      let f : ℕ → ℕ = λ v. own_many is_such no_join v (trace_in (ordered L) all) in
      let sum = by_workers is_such no_join L.workers (trace_in (ordered L) all) below in
      let few = at_most f L.workers z.view.number (length (filter is_such z.view.log))
      (λ v less other. ap (λ (es : List Entry). length (filter is_such es))
      (ap (part_of v) (sym seen.are) ∙ rest v less other))
      (let same = ap (λ (es : List Entry). length (filter is_such es)) own in omega (arith, same)) in
      omega (arith, sum, few)

  flagged : KeysOf is_won_flag L all
  flagged = flag_keys L enough all seen.keys

  linked : KeysOf is_won_link L all
  linked = link_keys L enough all seen.keys

  no_flags : (k : ℕ) → flags_of k L all ≡ 0
  no_flags k =
      let at = flagged.each k in
      let few = times_few k flagged.keys in
      let many = flagged.many in
      let less = most is_won_flag (λ v r. refl) in
      omega (arith, at, few, many, less, flags)

  settled : NothingIsPending L all
  settled w k f = let low = flagged_once L all w k f in let none = no_flags k in omega (arith, low, none)

  -- an insert that was answered has won a link
  one_link : (k : ℕ) → In ks k → 1 ≤ links_of k L all
  one_link k there =
      let h = each k (in_contained ks k there) in
      let s = subst (λ (n : ℕ). AnswerStands L h.start.view.past h.one.view.past n Insert k true) h.number
      (subst (λ (l : Layout). AnswerStands l h.start.view.past h.one.view.past h.one.view.number Insert k true)
      h.layout h.moment) in
      let a : AnsweredBy L all h.start.view.past h.one.view.past z.view.number Insert k true = answered_by L fits all
      seen.keys h.start.view.past h.one.view.past h.past.goes_on.more (sym seen.are ∙ h.past.goes_on.is)
      z.view.number Insert k true s in
      subst (λ (us : List (ℕ × Event)). 1 ≤ links_of k L us) (sym a.is.is_run)
      (linked_once L a.is.before ((z.view.number, LeaveWith true) ∷ a.is.since) z.view.number k a.is.moment)

  no_link : (k : ℕ) → (In ks k → ⊥) → links_of k L all ≡ 0
  no_link k none =
      let many = linked.many in
      let less = most is_won_link (λ v r. refl) in
      let there : (j : ℕ) → In ks j → 1 ≤ times j linked.keys = λ j is. let one = one_link j is in
      let at = linked.each j in omega (arith, one, at) in
      let nothing' = no_others 0 ks linked.keys up there (omega (arith, many, less, links)) k none in
      let at = linked.each k in
      omega (arith, nothing', at)

  now : words_after L z.view.past ≡ (after_in (ordered L) all).state.memory
  now = ap (words_after L) seen.are ∙ run_words L fits true all

  pub holds_just : HoldsJust L z.view.past ks
  holds_just k key = (
    λ there. to (subst (λ (m : Memory). InSet m k) now there) agree (is_in k ks),
    λ there. from
        (contained_in ks k there) agree,
  )
    where
      agree : Agree (links_of k L all) (flags_of k L all) (InSet (after_in (ordered L) all).state.memory k)
      agree = each_total_is_the_set L enough all seen.keys settled k key

      to : InSet (after_in (ordered L) all).state.memory k
          → Agree (links_of k L all) (flags_of k L all) (InSet (after_in (ordered L) all).state.memory k)
          → In ks k ⊎ (In ks k → ⊥) → Contains ks k
      to there so (inl is) = in_contained ks k is
      to there (inl so) (inr none) = let one = so.0 in let none' = no_link k none in absurd (omega (arith, one, none'))
      to there (inr so) (inr none) = absurd (so.1 there)

      from : In ks k → Agree (links_of k L all) (flags_of k L all) (InSet (after_in (ordered L) all).state.memory k)
          → InSet (words_after L z.view.past) k
      from is (inl so) = subst (λ (m : Memory). InSet m k) (sym now) so.1
      from is (inr so) = let same = so.0 in let one = one_link k is in let none = no_flags k in
          absurd (omega (arith, same, one, none))

-- ---- inserts one after the other

pub inserts_none : (w : WorkerView) → HasInserted [] w w
inserts_none w = record {
  same = refl;
  past = seen_itself w.pass;
  won = record { links = omega arith; flags = omega arith };
  fit = refl;
  each = λ k there. absurd (contained_in [] k there);
}

manages : (b : TreeView) (h : Options) (k : ℕ) (w x : WorkerView) → SaysManaged Insert b h k w x (Ok true)
    → Manages b h Insert k w x (Ok true)
manages b h k w x (inl (held, is, same)) = is_no_fault true fault.Pinned is
manages b h k w x (inr (free, t)) = t

pub inserts_one : (b : TreeView) (h : Options) (k : ℕ) (w x z : WorkerView) (ks : List ℕ)
    → SaysManaged Insert b h k w x (Ok true) → HasInserted ks x z → HasInserted (k ∷ ks) w z
inserts_one b h k w x z ks said did =
    let t = manages b h k w x said in
    let on = t.answers.on in
    let both = follows_then w.pass x.pass z.pass (record { same = on.same; past = on.past })
    (record { same = did.same; past = did.past }) in
    let l = t.answers.won.links in let m = did.won.links in
    let f = t.answers.won.flags in let g = did.won.flags in
    record {
      same = both.same;
      past = both.past;
      won = record { links = omega (arith, l, m); flags = omega (arith, f, g) };
      fit = did.fit ∙ on.fit;
      each = λ j there. by j (contained_in (k ∷ ks) j there);
    }
  where
    first : HasInsertedKey k z.pass
    first =
        let t = manages b h k w x said in
        record {
          start = w.pass;
          one = x.pass;
          layout = sym (ap (λ (s : PassView). s.view.layout) did.same);
          number = sym (ap (λ (s : PassView). s.view.number) did.same);
          past = did.past;
          moment = t.answers.moment;
        }

    by : (j : ℕ) → In (k ∷ ks) j → HasInsertedKey j z.pass
    by j (inl is) = subst (λ (i : ℕ). HasInsertedKey i z.pass) (sym is) first
    by j (inr there) = did.each j (in_contained ks j there)

-- after an insert that returned true, the worker is at rest
pub rests_then : (b : TreeView) (h : Options) (k : ℕ) (w x : WorkerView) → SaysManaged Insert b h k w x (Ok true)
    → (x.held ≡ None) × (x.pending ≡ None)
rests_then b h k w x said = let t = manages b h k w x said in (t.answers.on.held, t.answers.left)

-- ---- the member that has filled the set

pub has_filled : (b : TreeView) (f : Fit) (n : ℕ) (ks : List ℕ) (m y : MemberView) → IsNewMember b f n m
    → y.tree ≡ m.tree → HasInserted ks m.worker y.worker → y.worker.held ≡ None → y.worker.pending ≡ None
    → HasSeen y.worker.pass.view → HasSeenTurns y.worker.pass.view → IsLayout y.worker.pass.view.layout
    → y.worker.pass.view.layout.workers ≡ n + 1 → ((i : ℕ) → i < n → part_of i y.worker.pass.view.past ≡ [])
    → RiseFrom 0 ks → HasFilled b f n ks y
has_filled b f n ks m y new tree did free settled seen turns fits workers rest up =
    let number : y.worker.pass.view.number ≡ n = ap (λ (s : PassView). s.view.number) did.same
    ∙ ap (λ (v : View). v.number) new.new.1 in
    let no_links : won_links m.worker.pass.view.log ≡ 0 = ap (λ (v : View). won_links v.log) new.new.1 in
    let no_flags : won_flags m.worker.pass.view.log ≡ 0 = ap (λ (v : View). won_flags v.log) new.new.1 in
    let l = did.won.links in
    let g = did.won.flags in
    let links : won_links y.worker.pass.view.log ≡ length ks = omega (arith, l, no_links) in
    let flags : won_flags y.worker.pass.view.log ≡ 0 = omega (arith, g, no_flags) in
    let alone : OthersRest y.worker.pass = rests_below y.worker.pass n number workers rest in
    record {
      tree = tree ∙ new.tree;
      fit = did.fit ∙ new.fit;
      number = number;
      free = free;
      settled = settled;
      links = links;
      flags = flags;
      alone = alone;
      holds = holds_just y.worker.pass ks seen turns fits alone links flags up did.each;
    }
