-- What a set that was made of keys has in its report, if its only worker closes it.
use Rattle.std.proofs.Common.{◌≡◌, ◌∙◌, ◌↔◌, ℕ, ◌+◌, ◌<◌, inl, inr, List, [], ◌∷◌, ◌++◌, refl, sym, ap, subst, arith}
use Rattle.std.proofs.lemmas.List.Elements.{All-head}
use Rattle.std.specs.Prelude.{Contains, Result, Ok, Err}
use Rattle.nm_edge.specs.Keys.{IsKey}
use Rattle.nm_edge.specs.Layouts.{Layout}
use Rattle.nm_laws.proofs.ListOrders.{In, in_contained, in_right}
use Rattle.nm_model.specs.Acts.{InSet}
use Rattle.nm_model.specs.Headline.{after_turn, words_after, words_from, written}
use Rattle.nm_model.specs.Memory.{Memory, opening}
use Rattle.nm_model.specs.declared.event.Event.{Event}
use Rattle.nm_model.specs.declared.event.Event.TheVariants.{Announce, Leave, LeaveWith, Advance, Claim, Give, Fill, Link, Flag, Tag, Splice, Swap, Join}
use Rattle.nm_model.specs.declared.event.Field.TheVariants.{Key, Edge as EdgeOn, Birth}
use Rattle.nm_model.specs.declared.reply.Reply.{Reply}
use Rattle.nm_model.specs.declared.reply.Refused.{Refused}
use Rattle.nm_model.specs.declared.trace.Turn.{Turn}
use Rattle.nm_steps.specs.declared.view.View.{View}
use Rattle.nm_steps.specs.Rules.{Extends}
use Rattle.nm_steps.specs.Steps.{TreeView}
use Rattle.nm_epoch.specs.declared.collecting.HeldQueue.{HeldQueue}
use Rattle.nm_tree.specs.declared.closing.Report.{Report}
use Rattle.nm_tree.specs.Closing.{HasJoinedAlone, SaysClosed}
use Rattle.nm_tree.specs.Workers.{WorkerView}
use Rattle.nm_set.specs.Ends.{SaysEnded}
use Rattle.nm_set.specs.Filling.{HoldsJust}
use Rattle.nm_set.specs.Seats.{IsOwn, SetView}

-- ---- what writes nothing

none_written : (m : Memory) (w : ℕ) (e : Event) (q : Refused) → written m w e (Err q) ≡ m
none_written m w Announce q = refl
none_written m w Leave q = refl
none_written m w (LeaveWith answer) q = refl
none_written m w Advance q = refl
none_written m w (Claim x) q = refl
none_written m w (Give x) q = refl
none_written m w (Fill x Key v) q = refl
none_written m w (Fill x (EdgeOn side) v) q = refl
none_written m w (Fill x Birth v) q = refl
none_written m w (Link p side leaf new) q = refl
none_written m w (Flag p side leaf) q = refl
none_written m w (Tag p side) q = refl
none_written m w (Splice a d x p keep) q = refl
none_written m w (Swap p side leaf new) q = refl
none_written m w e q = refl

join_written : (m : Memory) (w v : ℕ) (r : Reply) → written m w (Join v) (Ok r) ≡ m
join_written m w v r = refl

-- a turn that was refused, or is a join
turn_unwritten : (m : Memory) (t : Turn) → ((r : Reply) → t.outcome ≡ Ok r → (v : ℕ) × (t.event ≡ Join v))
    → after_turn m t ≡ m
turn_unwritten m t joins = by t.outcome refl
  where
    by : (o : Result Reply Refused) → t.outcome ≡ o → after_turn m t ≡ m
    by (Err q) told = ap (λ (o : Result Reply Refused). written m t.worker t.event o) told
        ∙ none_written m t.worker t.event q
    by (Ok r) told =
        let j = joins r told in
        (λ i. written m t.worker (j.1 i) (told i)) ∙ join_written m t.worker j.0 r

turns_unwritten : (m : Memory) (ts : List Turn) → ((t : Turn) (r : Reply) → In ts t → t.outcome ≡ Ok r
    → (v : ℕ) × (t.event ≡ Join v)) → words_from m ts ≡ m
turns_unwritten m [] joins = refl
turns_unwritten m (t ∷ ts) joins =
    ap (λ (x : Memory). words_from x ts) (turn_unwritten m t (λ r told. joins t r (inl refl) told))
    ∙ turns_unwritten m ts (λ u r there told. joins u r (inr there) told)

words_join : (m : Memory) (ts us : List Turn) → words_from m (ts ++ us) ≡ words_from (words_from m ts) us
words_join m [] us = refl
words_join m (t ∷ ts) us = words_join (after_turn m t) ts us

-- ---- a tree of one worker is closed with it

module _ (b : TreeView) (z : WorkerView) (home : List WorkerView) (ks : List ℕ) (queues : List HeldQueue)
    (kept : List ℕ) (free reached : ℕ) (one : b.layout.workers ≡ 1) (own : IsOwn b z)
    (number : z.pass.view.number < z.pass.view.layout.workers)
    (holds : HoldsJust z.pass.view.layout z.pass.view.past ks)
    (is : SaysClosed b (z ∷ home) queues kept free reached) where
  abbrev v : View
  v = z.pass.view

  on : Extends is.turns v.past
  on = All-head (λ (w : WorkerView). Extends is.turns w.pass.view.past) z home is.goes_on

  joins : HasJoinedAlone is.turns v.past v.number
  joins = All-head (λ (w : WorkerView). HasJoinedAlone is.turns w.pass.view.past w.pass.view.number) z home is.own

  mine : (w : ℕ) → w < b.layout.workers → w ≡ v.number
  mine w less =
      let low : v.number < b.layout.workers = subst (λ (L : Layout). v.number < L.workers) own.own.layout number in
      omega (arith, less, low, one)

  joined : (t : Turn) (r : Reply) → In on.more t → t.outcome ≡ Ok r → (u : ℕ) × (t.event ≡ Join u)
  joined t r there told =
      let below = is.headline.workers t r (in_contained is.turns t
      (subst (λ (ts : List Turn). In ts t) (sym on.is) (in_right v.past on.more t there))) told in
      joins on.more t r on.is (in_contained on.more t there) (mine t.worker below) told

  same : words_after b.layout is.turns ≡ words_after v.layout v.past
  same =
      ap (words_after b.layout) on.is
      ∙ (words_join (opening b.layout) v.past on.more
      ∙ (turns_unwritten (words_after b.layout v.past) on.more joined
      ∙ ap (λ (L : Layout). words_after L v.past) (sym own.own.layout)))

  pub reports_just : (k : ℕ) → IsKey k → Contains kept k ↔ Contains ks k
  reports_just k key = (
    λ there. (holds k key).0 (subst (λ (m : Memory). InSet m k) same ((is.headline.set k).0 there).0),
    λ there. (is.headline.set k).1 (
      subst (λ (m : Memory). InSet m k) (sym same) ((holds k key).1 there),
      omega
          (arith, key),
    ),
  )

pub filled_report : (s : SetView) (z : WorkerView) (ks : List ℕ) (r : Report) → s.kept ≡ z ∷ []
    → s.tree.layout.workers ≡ 1 → IsOwn s.tree z → z.pass.view.number < z.pass.view.layout.workers
    → HoldsJust z.pass.view.layout z.pass.view.past ks → SaysEnded s r
    → (k : ℕ) → IsKey k → Contains r.keys.items k ↔ Contains ks k
filled_report s z ks r kept one own number holds ended =
    let says = subst (λ (ws : List WorkerView). SaysClosed s.tree (ws ++ ended.home) r.queues.items r.keys.items
    r.free r.reached) kept ended.says in
    reports_just s.tree z ended.home ks r.queues.items r.keys.items r.free r.reached one own number holds says
