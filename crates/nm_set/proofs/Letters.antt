-- Letters: what a worker tells of itself, what a reader's note tells on, and what a reader has heard
-- of that was told of as much as the writer has done.
use Rattle.std.proofs.Common.{◌≡◌, ◌∙◌, ◌⊎◌, inl, inr, ℕ, ◌+◌, ◌-◌, ◌<◌, ◌≤◌, ◌==◌, ◌||◌, Bool, true, false, cond, List, [], ◌∷◌, ◌++◌, append_assoc, length, refl, sym, ap, subst, arith}
use Rattle.std.specs.Prelude.{Option, Some, None, Result, Ok, filter, is_some}
use Rattle.std.proofs.lemmas.Bool.{cases_lt, eqb-true}
use Rattle.std.proofs.lemmas.Option.{none-some}
use Rattle.nm_edge.specs.declared.node.NodeId.{NodeId}
use Rattle.nm_model.specs.declared.event.Event.{Event}
use Rattle.nm_model.specs.declared.event.Event.TheVariants.{Flag}
use Rattle.nm_model.specs.declared.reply.Reply.{Reply}
use Rattle.nm_model.specs.declared.reply.Reply.TheVariants.{Flagged}
use Rattle.nm_model.specs.declared.reply.Refused.{Refused}
use Rattle.nm_model.specs.declared.trace.Turn.{Turn}
use Rattle.nm_laws.proofs.ListOrders.{In}
use Rattle.nm_model.specs.Headline.{confirms, departs}
use Rattle.nm_model.specs.Walks.{Entry, logged_by}
use Rattle.nm_order.specs.Logs.{part_of, takes_part}
use Rattle.nm_order.specs.WalksToArrivals.{is_won_flag}
use Rattle.nm_order.proofs.AnswersSince.{part-append}
use Rattle.nm_steps.specs.Rules.{Extends, ExtendsStores}
use Rattle.nm_steps.specs.Steps.{TreeView, Notice, PassView, IsOf, HasSeen, HasHeard, HasSeenAllOf}
use Rattle.nm_steps.proofs.Growing.{goes_on_itself, goes_on_through}
use Rattle.nm_walks.specs.WonCounts.{won_links, won_flags, won_splices}
use Rattle.nm_epoch.specs.Collecting.{capped}
use Rattle.nm_walks.proofs.Adding.{Adds, adds_these}
use Rattle.nm_progress.specs.Pending.{leaf_after, leaf_by}
use Rattle.nm_tree.specs.declared.worker.Counts.{Counts}
use Rattle.nm_tree.specs.Workers.{WorkerView, IsLedger, log_held_of}
use Rattle.nm_tree.proofs.OwnQueue.{log_of_own}
use Rattle.nm_tree.proofs.FoundThenGone.{begins}
use Rattle.nm_tree.proofs.JoinsAlone.{told_in_part}
use Rattle.nm_set.specs.declared.posting.Stamp.{Stamp}
use Rattle.nm_set.specs.Posts.{ComesBehind, HasHeardAll, HasHeardOf, HasTally, HasWonNothing, IsLetter, IsTallyOf, LettersAreInOrder, pending_by}

-- ---- counts of a log

-- an entry is counted
pub some_in : {X : Type 0} (p : X → Bool) (xs : List X) (x : X) → In xs x → p x ≡ true → 1 ≤ length (filter p xs)
some_in p [] x there is = absurd there
some_in p (y ∷ ys) x (inl at) is =
    let e = ap (λ (b : Bool). length (cond b (y ∷ filter p ys) (filter p ys))) (ap p (sym at) ∙ is) in omega (arith, e)
some_in p (y ∷ ys) x (inr there) is = go (p y) (some_in p ys x there is)
  where
    go : (b : Bool) → 1 ≤ length (filter p ys) → 1 ≤ length (cond b (y ∷ filter p ys) (filter p ys))
    go true rest = omega (arith, rest)
    go false rest = rest

-- ---- a delete that is pending

-- a turn that leaves a flagged leaf has flagged it, or it was flagged before
leaf_from : (so : Option NodeId) (e : Event) (o : Result Reply Refused) (n : NodeId) → leaf_by so e o ≡ Some n
    → (so ≡ Some n) ⊎ ((r : Reply) × (o ≡ Ok r) × (is_won_flag (e, r) ≡ true))
leaf_from so (Flag p side s) (Ok (Flagged m)) n is = inr (Flagged m, refl, refl)
leaf_from so e o n is = go (confirms e o || departs e o) is
  where
    go : (b : Bool) → cond b None so ≡ Some n → (so ≡ Some n) ⊎ ((r : Reply) × (o ≡ Ok r) × (is_won_flag (e, r) ≡ true))
    go true none = absurd (none-some n none)
    go false at = inl at

-- so its worker has won a flag
leaf_won : (i : ℕ) (so : Option NodeId) (ts : List Turn) (n : NodeId) → leaf_after i so ts ≡ Some n
    → (so ≡ Some n) ⊎ (1 ≤ won_flags (part_of i ts))
leaf_won i so [] n is = inl is
leaf_won i so (t ∷ ts) n is = by (t.worker == i) refl
    (leaf_won i (cond (t.worker == i) (leaf_by so t.event t.outcome) so) ts n is)
  where
    here : List Entry
    here = cond (takes_part i t.worker t.event) (logged_by t) []

    more : won_flags (here ++ part_of i ts) ≡ won_flags here + won_flags (part_of i ts)
    more = (adds_these (part_of i ts) here (here ++ part_of i ts) refl).flags

    flagged : (r : Reply) → t.worker ≡ i → t.outcome ≡ Ok r → is_won_flag (t.event, r) ≡ true
        → 1 ≤ won_flags (part_of i (t ∷ ts))
    flagged r own told won = some_in is_won_flag (part_of i (t ∷ ts)) (t.event, r)
        (told_in_part i (t ∷ ts) t r (inl refl) own told) won

    by : (b : Bool) → (t.worker == i) ≡ b → (cond (t.worker == i) (leaf_by so t.event t.outcome) so ≡ Some n)
        ⊎ (1 ≤ won_flags (part_of i ts)) → (so ≡ Some n) ⊎ (1 ≤ won_flags (part_of i (t ∷ ts)))
    by b own (inr less) = inr (omega (arith, more, less))
    by false own (inl at) = inl (ap (λ (c : Bool). cond c (leaf_by so t.event t.outcome) so) (sym own) ∙ at)
    by true own (inl at) = elim (leaf_from so t.event t.outcome n
        (ap (λ (c : Bool). cond c (leaf_by so t.event t.outcome) so) (sym own) ∙ at)) [
          | inl was ↦ inl was
          | inr f ↦ inr (flagged f.0 (eqb-true t.worker i own) f.1 f.2)
        ]

pending_few : (i : ℕ) (turns : List Turn) → pending_by i turns ≤ won_flags (part_of i turns)
pending_few i turns = go (leaf_after i None turns) refl
  where
    go : (o : Option NodeId) → leaf_after i None turns ≡ o → cond (is_some o) 1 0 ≤ won_flags (part_of i turns)
    go None is = omega arith
    go (Some n) is = elim (leaf_won i None turns n is) [
      | inl none ↦ absurd (none-some n none)
      | inr less ↦ less
    ]

pending_one : (i : ℕ) (turns : List Turn) → pending_by i turns ≤ 1
pending_one i turns = go (is_some (leaf_after i None turns))
  where
    go : (b : Bool) → cond b 1 0 ≤ 1
    go true = omega arith
    go false = omega arith

-- ---- letters

-- the part of a worker is the log that its ledger counts
part_held : (p : PassView) → HasSeen p.view → log_held_of p.view p.view.number ≡ part_of p.view.number p.view.past
part_held p seen = log_of_own p ∙ sym seen.is_part

-- what a worker has done, by its ledger, where so many deletes of it are pending
pub tally : (w : WorkerView) (c : Counts) (n : ℕ) → HasSeen w.pass.view → IsLedger w.pass.view w.pass.view.number c
    → pending_by w.pass.view.number w.pass.view.past ≡ n
    → IsTallyOf w (record { inserted = c.links; removed = c.flags - n })
tally w c n seen l pends =
    let part = part_held w.pass seen in
    record {
      inserted = l.links ∙ ap (λ (log : List Entry). capped (won_links log)) part;
      removed =
          let flags : c.flags ≡ capped (won_flags (part_of w.pass.view.number w.pass.view.past)) = l.flags
          ∙ ap (λ (log : List Entry). capped (won_flags log)) part in
          let one = pending_one w.pass.view.number w.pass.view.past in
          let few = pending_few w.pass.view.number w.pass.view.past in
          omega (arith, flags, pends, one, few);
    }

-- so what it has seen comes behind that
pub behind_itself : (w : WorkerView) (t : Stamp) → IsTallyOf w t → ComesBehind w.pass.view.number t w.pass.view.past
behind_itself w t has = record { before = w.pass.view.past; goes_on = goes_on_itself w.pass.view.past; tally = has }

-- and what goes on from what comes behind it does too
pub behind_still : (i : ℕ) (t : Stamp) (later seen : List Turn) → Extends later seen → ComesBehind i t seen
    → ComesBehind i t later
behind_still i t later seen on c = record {
  before = c.before;
  goes_on = goes_on_through later seen c.before on
      c.goes_on;
  tally = c.tally;
}

-- the note of a worker in its own mailbox, which is one of its tree
pub own_letter : (b d : TreeView) (w : WorkerView) (i : ℕ) (t : Stamp) (n : Notice) → d ≡ b → IsOf b w.pass
    → IsTallyOf w t → i ≡ w.pass.view.number
    → n ≡ record { table = w.pass.table; past = w.pass.view.past; stores = w.pass.view.stores } → IsLetter d i t n
own_letter b d w i t n at of has number is =
    let told : ComesBehind i t w.pass.view.past = subst (λ (k : ℕ). ComesBehind k t w.pass.view.past) (sym number)
    (behind_itself w t has) in
    let letter : IsLetter b i t n = subst (λ (m : Notice). IsLetter b i t m) (sym is)
    (record { table = of.table; told = told }) in
    subst (λ (x : TreeView). IsLetter x i t n) (sym at) letter

-- the note of a worker that has heard a letter
pub same_letter : (b d : TreeView) (p : PassView) (i : ℕ) (t : Stamp) (heard n : Notice) → d ≡ b → IsOf b p
    → IsLetter d i t heard → Extends p.view.past heard.past
    → n ≡ record { table = p.table; past = p.view.past; stores = p.view.stores } → IsLetter d i t n
same_letter b d p i t heard n at of letter on is =
    let table : p.table ≡ d.table = of.table ∙ ap (λ (x : TreeView). x.table) (sym at) in
    subst (λ (m : Notice). IsLetter d i t m) (sym is)
    (record { table = table; told = behind_still i t p.view.past heard.past on letter.told })

-- what a worker has that has heard it
pub heard_of : (b d : TreeView) (i : ℕ) (t : Stamp) (w z : WorkerView) (heard : Notice) → d ≡ b
    → IsLetter d i t heard → HasHeard w.pass z.pass → HasSeenAllOf z.pass w.pass
    → Extends z.pass.view.past heard.past → ExtendsStores z.pass.view.stores w.pass.view.stores
    → z ≡ record w { pass = z.pass } → HasHeardOf b i t w z
heard_of b d i t w z heard at letter same past on stores rest = record {
  same = same;
  past = past;
  stores = stores;
  told = behind_still i t z.pass.view.past heard.past on letter.told;
  rest = rest;
}

-- ---- the order of two workers

-- who has counted no more by some turns than by a beginning of them has won nothing between, and
-- nothing was pending then
no_more : (i : ℕ) (p q : Stamp) (told before more : List Turn) → told ≡ before ++ more → HasTally i p told
    → leaf_after i None told ≡ None → HasTally i q before → p.inserted ≤ q.inserted → p.removed ≤ q.removed
    → p.inserted < 18446744073709551615 → p.removed < 18446744073709551615
    → HasWonNothing i more × (leaf_after i None before ≡ None)
no_more i p q told before more are has rests had links flags few_links few_flags = (
  record {
    links = let a = has.inserted in let b = had.inserted in let s = adds.links in
        omega (arith, a, b, s, links, few_links);
    flags = let a = has.removed in let b = had.removed in let s = adds.flags in
        omega (arith, a, b, s, flags, few_flags, none);
  },
  nothing (leaf_after i None before) refl,
)
  where
    adds : Adds (won_links (part_of i more)) (won_flags (part_of i more)) (won_splices (part_of i more))
        (length (part_of i more)) (part_of i before) (part_of i told)
    adds = adds_these (part_of i more) (part_of i before) (part_of i told)
        (ap (part_of i) are ∙ part-append i before more)

    none : pending_by i told ≡ 0
    none = ap (λ (o : Option NodeId). cond (is_some o) 1 0) rests

    nothing : (o : Option NodeId) → leaf_after i None before ≡ o → o ≡ None
    nothing None is = refl
    nothing (Some n) is = absurd (
        let one : pending_by i before ≡ 1 = ap (λ (x : Option NodeId). cond (is_some x) 1 0) is in
        let a = has.removed in let b = had.removed in let s = adds.flags in
        omega (arith, a, b, s, flags, few_flags, none, one))

pub letters_order : LettersAreInOrder
letters_order run told seen i p q on further has rests behind links flags few_links few_flags = by
    (cases_lt (length told) (length behind.before))
  where
    before : List Turn
    before = behind.before

    from : run ≡ before ++ (behind.goes_on.more ++ further.more)
    from = further.is ∙ (ap (λ (ts : List Turn). ts ++ further.more) behind.goes_on.is
        ∙ append_assoc before behind.goes_on.more further.more)

    by : (length told < length before) ⊎ (length before ≤ length told) → HasHeardAll i told seen
    by (inl less) =
        let b = begins told before on.more (behind.goes_on.more ++ further.more) (sym on.is ∙ from)
        (omega (arith, less)) in
        record { before = before; goes_on = behind.goes_on; all = inl (record { more = b.0; is = b.1 }) }
    by (inr less) = let b = begins before told (behind.goes_on.more ++ further.more) on.more (sym from ∙ on.is) less in
        let n = no_more i p q told before b.0 b.1 has rests behind.tally links flags few_links few_flags in
        record { before = before; goes_on = behind.goes_on; all = inr (b.0, b.1, n.0, n.1) }
