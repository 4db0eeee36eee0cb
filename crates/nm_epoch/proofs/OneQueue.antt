-- How collecting the front of a queue goes on.
use Rattle.std.proofs.Common.{◌≡◌, ◌≢◌, ℕ, suc, ◌+◌, Bool, true, false, cond, List, [], ◌∷◌, ◌++◌, map, length, drop, refl, sym, ap, subst, ◌∙◌, arith}
use Rattle.std.specs.Prelude.{Some, None}
use Rattle.std.specs.List.{prefix_len}
use Rattle.std.proofs.lemmas.Bool.{leb-true, cond-true}
use Rattle.std.proofs.lemmas.Option.{none-some, same_Some}
use Rattle.std.proofs.lemmas.List.{append_assoc}
use Rattle.std.proofs.lemmas.List.Sums.{take_while-cons}
use Rattle.nm_edge.specs.declared.node.NodeId.{NodeId}
use Rattle.nm_model.specs.declared.event.Event.TheVariants.{Give}
use Rattle.nm_model.specs.declared.reply.Reply.TheVariants.{Freed}
use Rattle.nm_model.specs.declared.knowledge.Brief.{Brief}
use Rattle.nm_model.specs.Ledgers.{held}
use Rattle.nm_model.specs.Walks.{Entry as LogEntry}
use Rattle.nm_steps.specs.Rules.{knowledge}
use Rattle.nm_steps.specs.Steps.{PassView, MayStep, Stepped, give_reply, IsInRun}
use Rattle.nm_steps.proofs.AfterSteps.{apart_in_run}
use Rattle.nm_epoch.specs.declared.collecting.Entry.{Entry}
use Rattle.nm_epoch.specs.Resting.{Settles, epochs}
use Rattle.nm_order.specs.Hands.{AreApart}
use Rattle.nm_epoch.specs.Collecting.{IsQueueOf, OnlyFrees, is_ripe, ripe_front, ripe_part, rest_of, freeing}
use Rattle.nm_epoch.proofs.Fronts.{may_free, freed_reply, queue_after, others_after, retired_stays, epochs_stay, search_stays, nodes_stay, private_stay}

pub frees_then : (p q r : PassView) → OnlyFrees p q → OnlyFrees q r → OnlyFrees p r
frees_then p q r first rest = record {
  retired = λ o. rest.retired o ∙ first.retired o;
  epochs_are = rest.epochs_are ∙ first.epochs_are;
  search_is = rest.search_is ∙ first.search_is;
  nodes = rest.nodes ∙ first.nodes;
  private = rest.private ∙ first.private;
}

-- what was freed and what is ripe still is what was ripe at first
pub record IsCollecting (epoch origin : ℕ) (start : PassView) (all : List Entry) (p : PassView)
    (now : List Entry) : Type 0 where
  pub queue : IsQueueOf (knowledge p.view) origin now
  pub others : (o : ℕ) → o ≢ origin → held (knowledge p.view).ledgers o ≡ held (knowledge start.view).ledgers o
  pub only : OnlyFrees start p
  pub entries : p.view.log ++ map freeing (ripe_part epoch now) ≡ start.view.log ++ map freeing (ripe_part epoch all)
  pub left : rest_of epoch now ≡ rest_of epoch all
  pub count : length now + length (ripe_part epoch all) ≡ length all + length (ripe_part epoch now)

pub collecting_begins : (epoch origin : ℕ) (start : PassView) (all : List Entry)
    → IsQueueOf (knowledge start.view) origin all → IsCollecting epoch origin start all start all
collecting_begins epoch origin start all queue = record {
  queue = queue;
  others = λ o other. refl;
  only = record { retired = λ o. refl; epochs_are = refl; search_is = refl; nodes = refl; private = refl };
  entries = refl;
  left = refl;
  count = refl;
}

-- ---- ripe entries

pub ripe_node : (b : Bool) (x n : NodeId) → cond b (Some x) None ≡ Some n → (b ≡ true) × (x ≡ n)
ripe_node true x n h = (refl, same_Some x n h)
ripe_node false x n h = absurd (none-some n h)

pub ripe_more : (epoch : ℕ) (x : Entry) (es : List Entry) → is_ripe epoch x ≡ true
    → ripe_part epoch (x ∷ es) ≡ x ∷ ripe_part epoch es
ripe_more epoch x es h = take_while-cons (is_ripe epoch) x es
    ∙ cond-true (is_ripe epoch x) (x ∷ ripe_part epoch es) [] h

rest_more : (epoch : ℕ) (x : Entry) (es : List Entry) → is_ripe epoch x ≡ true
    → rest_of epoch (x ∷ es) ≡ rest_of epoch es
rest_more epoch x es h =
    let one : 1 + prefix_len (is_ripe epoch) es ≡ suc (prefix_len (is_ripe epoch) es) = omega arith in
    ap (λ (n : ℕ). drop n (x ∷ es)) (cond-true (is_ripe epoch x) (1 + prefix_len (is_ripe epoch) es) 0 h ∙ one)

pub none_ripe : (epoch : ℕ) (now : List Entry) → ripe_front epoch now ≡ None
    → (ripe_part epoch now ≡ []) × (rest_of epoch now ≡ now)
none_ripe epoch [] h = (refl, refl)
none_ripe epoch (x ∷ es) h = by (is_ripe epoch x) refl h
  where
    by : (b : Bool) → is_ripe epoch x ≡ b → cond b (Some x.node) None ≡ None
        → (ripe_part epoch (x ∷ es) ≡ []) × (rest_of epoch (x ∷ es) ≡ x ∷ es)
    by true is h = absurd (none-some x.node (sym h))
    by false is h = (rw is refl, rw is refl)

-- what is ripe at the front and what is left are all
pub both_parts : (epoch : ℕ) (es : List Entry) → length (ripe_part epoch es) + length (rest_of epoch es) ≡ length es
both_parts epoch [] = refl
both_parts epoch (x ∷ es) = by (is_ripe epoch x) refl (both_parts epoch es)
  where
    by : (b : Bool) → is_ripe epoch x ≡ b → length (ripe_part epoch es) + length (rest_of epoch es) ≡ length es
        → length (ripe_part epoch (x ∷ es)) + length (rest_of epoch (x ∷ es)) ≡ suc (length es)
    by true is rest =
        let one : length (ripe_part epoch (x ∷ es)) ≡ suc (length (ripe_part epoch es)) = ap
        (λ (r : List Entry). length r) (ripe_more epoch x es is) in
        let left : length (rest_of epoch (x ∷ es)) ≡ length (rest_of epoch es) = ap (λ (r : List Entry). length r)
        (rest_more epoch x es is) in
        omega (arith, one, left, rest)
    by false is rest =
        let none' = none_ripe epoch (x ∷ es) (ap (λ (b : Bool). cond b (Some x.node) None) is) in
        let one : length (ripe_part epoch (x ∷ es)) ≡ 0 = ap (λ (r : List Entry). length r) none'.0 in
        let left : length (rest_of epoch (x ∷ es)) ≡ suc (length es) = ap (λ (r : List Entry). length r) none'.1 in
        omega (arith, one, left)

-- ---- one more

pub may_collect : (epoch origin : ℕ) (start p : PassView) (all now : List Entry) (n : NodeId) → IsInRun p
    → IsCollecting epoch origin start all p now → (epochs start).seen ≡ Some epoch → ripe_front epoch now ≡ Some n
    → MayStep p (Give n.slot)
may_collect epoch origin start p all [] n run c seen ripe = absurd (none-some n ripe)
may_collect epoch origin start p all (x ∷ es) n run c seen ripe =
    let r = ripe_node (is_ripe epoch x) x.node n ripe in
    subst (λ (m : NodeId). MayStep p (Give m.slot)) r.1
    (may_free p origin x es c.queue (apart_in_run p run) epoch
    (ap (λ (b : Brief). b.seen) c.only.epochs_are ∙ seen) (leb-true (x.label + 2) epoch r.0))

collecting_more : (epoch origin : ℕ) (start p q : PassView) (all es : List Entry) (x : Entry) → IsInRun p
    → IsCollecting epoch origin start all p (x ∷ es) → is_ripe epoch x ≡ true
    → Stepped p q (Give x.node.slot) (Freed x.node) → IsCollecting epoch origin start all q es
collecting_more epoch origin start p q all es x run c ripe step =
    let apart : AreApart p.view.layout (knowledge p.view) = apart_in_run p run in
    let log_is : q.view.log ≡ p.view.log ++ freeing x ∷ [] = ap (λ (y : PassView). y.view.log) step in
    let more : ripe_part epoch (x ∷ es) ≡ x ∷ ripe_part epoch es = ripe_more epoch x es ripe in
    let longer : length (ripe_part epoch (x ∷ es)) ≡ suc (length (ripe_part epoch es)) = ap
    (λ (r : List Entry). length r) more in
    let count : suc (length es) + length (ripe_part epoch all)
    ≡ length all + length (ripe_part epoch (x ∷ es)) = c.count in
    record {
      queue = queue_after p origin x es c.queue apart q step;
      others = λ o ne. others_after p origin x es c.queue apart q step o ne ∙ c.others o ne;
      only = frees_then start p q c.only (record {
        retired = retired_stays p origin x es c.queue apart q step;
        epochs_are = epochs_stay p origin x es c.queue apart q step;
        search_is = search_stays p origin x es c.queue apart q step;
        nodes = nodes_stay p origin x es c.queue apart q step;
        private = private_stay p origin x es c.queue apart q step;
      });
      entries = ap (λ (log : List LogEntry). log ++ map freeing (ripe_part epoch es)) log_is
          ∙ (append_assoc p.view.log (freeing x ∷ []) (map freeing (ripe_part epoch es))
          ∙ (sym (ap (λ (r : List Entry). p.view.log ++ map freeing r) more) ∙ c.entries));
      left = sym (rest_more epoch x es ripe) ∙ c.left;
      count = omega (arith, longer, count);
    }

pub collecting_on : (epoch origin : ℕ) (start p q : PassView) (all now later : List Entry) (y : Entry) (n : NodeId)
    → IsInRun p → IsCollecting epoch origin start all p now → ripe_front epoch now ≡ Some n
    → Stepped p q (Give n.slot) (give_reply p.view n.slot)
    → now ≡ y ∷ later → IsCollecting epoch origin start all q later
collecting_on epoch origin start p q all [] later y n run c ripe step is = absurd (none-some n ripe)
collecting_on epoch origin start p q all (x ∷ es) later y n run c ripe step is =
    let r = ripe_node (is_ripe epoch x) x.node n ripe in
    let here : Stepped p q (Give x.node.slot) (give_reply p.view x.node.slot) = subst
    (λ (m : NodeId). Stepped p q (Give m.slot) (give_reply p.view m.slot)) (sym r.1) step in
    subst (λ (l : List Entry). IsCollecting epoch origin start all q l) (ap (λ (l : List Entry). drop 1 l) is)
    (collecting_more epoch origin start p q all es x run c r.0
    (subst (λ reply. Stepped p q (Give x.node.slot) reply) (freed_reply p origin x es c.queue (apart_in_run p run))
    here))

-- the step by which the front was freed
pub freed_log : (epoch origin : ℕ) (start p q : PassView) (all es : List Entry) (x : Entry) (n : NodeId) → IsInRun p
    → IsCollecting epoch origin start all p (x ∷ es) → ripe_front epoch (x ∷ es) ≡ Some n
    → Stepped p q (Give n.slot) (give_reply p.view n.slot) → q.view.log ≡ p.view.log ++ freeing x ∷ []
freed_log epoch origin start p q all es x n run c ripe step =
    let r = ripe_node (is_ripe epoch x) x.node n ripe in
    let here : Stepped p q (Give x.node.slot) (give_reply p.view x.node.slot) = subst
    (λ (m : NodeId). Stepped p q (Give m.slot) (give_reply p.view m.slot)) (sym r.1) step in
    ap (λ (y : PassView). y.view.log) (subst (λ reply. Stepped p q (Give x.node.slot) reply)
    (freed_reply p origin x es c.queue (apart_in_run p run)) here)

-- what is dropped is the front
pub dropped_front : (epoch : ℕ) (now later : List Entry) (n : NodeId) → later ≡ drop 1 now
    → ripe_front epoch now ≡ Some n → (y : Entry) × (now ≡ y ∷ later)
dropped_front epoch [] later n is ripe = absurd (none-some n ripe)
dropped_front epoch (x ∷ es) later n is ripe = (x, ap (λ (l : List Entry). x ∷ l) (sym is))

-- what was settled stays so, where nodes were freed alone
pub settled_on : (o p q : PassView) → Settles o p → OnlyFrees p q → Settles o q
settled_on o p q s only = record {
  labelled = ap (λ (b : Brief). b.unlabelled) only.epochs_are ∙ s.labelled;
  stays = λ settled.
      let t = s.stays settled in
      record {
        announcement = ap (λ (b : Brief). b.announcement) only.epochs_are
            ∙ t.announcement;
        pin = ap (λ (b : Brief). b.pin) only.epochs_are ∙ t.pin;
        search = only.search_is
            ∙ t.search;
        known = only.nodes ∙ t.known;
      };
}
