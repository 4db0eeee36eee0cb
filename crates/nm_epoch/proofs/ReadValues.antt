-- How a collection that hands out values goes on, node by node.
use Rattle.std.proofs.Common.{◌≡◌, ◌⊎◌, inl, inr, ℕ, ◌+◌, Bool, true, false, cond, List, [], ◌∷◌, ◌++◌, map, length, refl, sym, ap, subst, ◌∙◌, arith}
use Rattle.std.specs.Prelude.{Some, None, drop, nat_lt, ◌-◌, ◌≤◌}
use Rattle.std.proofs.lemmas.Bool.{ltb-true}
use Rattle.std.proofs.lemmas.Option.{none-some}
use Rattle.std.proofs.lemmas.List.{append_assoc, append-nil, length-append, map-append}
use Rattle.nm_edge.specs.Layouts.{IsLayout}
use Rattle.nm_edge.specs.declared.node.NodeId.{NodeId}
use Rattle.nm_model.specs.declared.event.Event.TheVariants.{Give}
use Rattle.nm_model.specs.Walks.{Entry as LogEntry}
use Rattle.nm_steps.specs.Rules.{knowledge, value_of}
use Rattle.nm_steps.specs.Steps.{Continues, IsInRun, PassView, TakesStep, give_reply}
use Rattle.nm_steps.specs.Values.{OnlySees, is_bare}
use Rattle.nm_steps.proofs.Seeing.{continues_by, continues_then, seen_itself, stores_same}
use Rattle.nm_steps.proofs.ValueStays.{continues_by_value}
use Rattle.nm_epoch.specs.declared.collecting.Entry.{Entry}
use Rattle.nm_epoch.specs.declared.collecting.HeldQueue.{HeldQueue}
use Rattle.nm_epoch.specs.Collecting.{IsQueueOf, IsTrimmed, freed_more, freeing, is_ripe, ripe_front, ripe_part}
use Rattle.nm_epoch.specs.Handing.{HandsFront, HandsOut, WasFound, WasRead, WereRead}
use Rattle.nm_epoch.proofs.OneQueue.{IsCollecting, collecting_on, freed_log, ripe_more, ripe_node}

-- ---- what was read

found_on : (origin : ℕ) (start p q : PassView) (e : Entry) (b : Bool) → Continues p q → WasFound origin start p e b
    → WasFound origin start q e b
found_on origin start p q e b on r = record {
  at = r.at;
  after = r.after;
  until = continues_then r.at p q r.until on;
  later = r.later;
  waits = r.waits;
  seen = r.seen;
  is = r.is;
}

found_from : (origin : ℕ) (o p q : PassView) (e : Entry) (b : Bool) → Continues o p → WasFound origin p q e b
    → WasFound origin o q e b
found_from origin o p q e b before r = record {
  at = r.at;
  after = continues_then o p r.at before r.after;
  until = r.until;
  later = r.later;
  waits = r.waits;
  seen = r.seen;
  is = r.is;
}

value_on : (origin : ℕ) (start p q : PassView) (e : Entry) (v : ℕ) → Continues p q → WasRead origin start p e v
    → WasRead origin start q e v
value_on origin start p q e v on r = record {
  found = record {
    at = r.found.at;
    after = r.found.after;
    until = continues_then r.found.at p q r.found.until on;
    later = r.found.later;
    waits = r.found.waits;
    seen = r.found.seen;
    is = r.found.is;
  };
  at = r.at;
  after = r.after;
  until = continues_then r.at p q r.until on;
  later = r.later;
  waits = r.waits;
  seen = r.seen;
  value = r.value;
}

value_from : (origin : ℕ) (o p q : PassView) (e : Entry) (v : ℕ) → Continues o p → WasRead origin p q e v
    → WasRead origin o q e v
value_from origin o p q e v before r = record {
  found = record {
    at = r.found.at;
    after = continues_then o p r.found.at before r.found.after;
    until = r.found.until;
    later = r.found.later;
    waits = r.found.waits;
    seen = r.found.seen;
    is = r.found.is;
  };
  at = r.at;
  after = r.after;
  until = r.until;
  later = r.later;
  waits = r.waits;
  seen = r.seen;
  value = r.value;
}

-- what was read stays so
pub read_on : (origin : ℕ) (start p q : PassView) (es : List Entry) (vs : List ℕ) → Continues p q
    → WereRead origin start p es vs → WereRead origin start q es vs
read_on origin start p q [] vs on r = r
read_on origin start p q (e ∷ es) vs on (inl (other, rest)) = inl
    (found_on origin start p q e false on other, read_on origin start p q es vs on rest)
read_on origin start p q (e ∷ es) vs on (inr (v, later, are, one, rest)) = inr
    (v, later, are, value_on origin start p q e v on one, read_on origin start p q es later on rest)

pub read_from : (origin : ℕ) (o p q : PassView) (es : List Entry) (vs : List ℕ) → Continues o p
    → WereRead origin p q es vs → WereRead origin o q es vs
read_from origin o p q [] vs before r = r
read_from origin o p q (e ∷ es) vs before (inl (other, rest)) = inl
    (found_from origin o p q e false before other, read_from origin o p q es vs before rest)
read_from origin o p q (e ∷ es) vs before (inr (v, later, are, one, rest)) = inr
    (v, later, are, value_from origin o p q e v before one, read_from origin o p q es later before rest)

-- the value of the node at the front was read if it is a leaf, and these are all values then
abbrev pub MayHaveRead : ℕ → PassView → PassView → Entry → List ℕ → List ℕ → Type 0
MayHaveRead origin start p x vs ws = (WasFound origin start p x false × (ws ≡ vs))
    ⊎ ((v : ℕ) × WasRead origin start p x v × (ws ≡ vs ++ v ∷ []))

read_push : (origin : ℕ) (start p : PassView) (es : List Entry) (vs ws : List ℕ) (x : Entry)
    → WereRead origin start p es vs → MayHaveRead origin start p x vs ws → WereRead origin start p (es ++ x ∷ []) ws
read_push origin start p [] vs ws x none' (inl (other, same)) = inl (other, same ∙ none')
read_push origin start p [] vs ws x none' (inr (v, one, is)) = inr
    (v, [], is ∙ ap (λ (l : List ℕ). l ++ v ∷ []) none', one, refl)
read_push origin start p (e ∷ es) vs ws x (inl (other, rest)) more = inl
    (other, read_push origin start p es vs ws x rest more)
read_push origin start p (e ∷ es) vs ws x (inr (v, later, are, one, rest)) (inl (other, same)) =
    inr (v, later, same ∙ are, one, read_push origin start p es later later x rest (inl (other, refl)))
read_push origin start p (e ∷ es) vs ws x (inr (v, later, are, one, rest)) (inr (u, two, is)) =
    inr (
      v,
      later ++ u ∷ [],
      is ∙ ap (λ (l : List ℕ). l ++ u ∷ []) are,
      one,
      read_push origin start p es later
          (later ++ u ∷ []) x rest (inr (u, two, refl)),
    )

-- ---- one node

-- the entries that were freed are a front of all, and the values of the leaves among them were read
pub record IsHanding (epoch origin : ℕ) (start : PassView) (all : List Entry) (p : PassView) (now : List Entry)
    (values : List ℕ) : Type 0 where
  pub collecting : IsCollecting epoch origin start all p now
  pub freed : List Entry
  pub parts : all ≡ freed ++ now
  pub log : p.view.log ≡ start.view.log ++ map freeing freed
  pub ripe : ripe_part epoch all ≡ freed ++ ripe_part epoch now
  pub read : WereRead origin start p freed values

pub handing_begins : (epoch origin : ℕ) (start : PassView) (all : List Entry)
    → IsCollecting epoch origin start all start all → IsHanding epoch origin start all start all []
handing_begins epoch origin start all c = record {
  collecting = c;
  freed = [];
  parts = refl;
  log = sym
      (append-nil start.view.log);
  ripe = refl;
  read = refl;
}

-- a look at a value changes nothing of this
pub collecting_sees : (epoch origin : ℕ) (start p q : PassView) (all now : List Entry) → OnlySees p q
    → IsCollecting epoch origin start all p now → IsCollecting epoch origin start all q now
collecting_sees epoch origin start p q all now sees c =
    subst (λ (z : PassView). IsCollecting epoch origin start all z now) (sym sees.same)
    (record {
      queue = c.queue;
      others = c.others;
      only = record {
        retired = c.only.retired;
        epochs_are = c.only.epochs_are;
        search_is = c.only.search_is;
        nodes =
            c.only.nodes;
        private = c.only.private;
      };
      entries = c.entries;
      left = c.left;
      count = c.count;
    })

pub continues_itself : (p : PassView) → IsInRun p → Continues p p
continues_itself p run = record {
  same = refl;
  past = seen_itself p;
  run = run;
  stores = stores_same p.view.stores
      p.view.stores refl;
}

pub continues_by_look : (p q : PassView) → IsInRun p → OnlySees p q → Continues p q
continues_by_look p q run sees = continues_by_value p q sees
    (subst (λ (z : PassView). IsLayout z.view.layout) (sym sees.same) run.fits)

-- a look if the node is a leaf, or nothing
pub continues_if : (p r : PassView) (b : Bool) → IsInRun p → (b ≡ true → OnlySees p r) → (b ≡ false → r ≡ p)
    → Continues p r
continues_if p r true run looks none' = continues_by_look p r run (looks refl)
continues_if p r false run looks none' = subst (λ (z : PassView). Continues p z) (sym (none' refl))
    (continues_itself p run)

pub collecting_if : (epoch origin : ℕ) (start p r : PassView) (all now : List Entry) (b : Bool)
    → (b ≡ true → OnlySees p r) → (b ≡ false → r ≡ p) → IsCollecting epoch origin start all p now
    → IsCollecting epoch origin start all r now
collecting_if epoch origin start p r all now true looks none' c = collecting_sees epoch origin start p r all now
    (looks refl) c
collecting_if epoch origin start p r all now false looks none' c = subst
    (λ (z : PassView). IsCollecting epoch origin start all z now) (sym (none' refl)) c

pub log_if : (p r : PassView) (b : Bool) → (b ≡ true → OnlySees p r) → (b ≡ false → r ≡ p) → r.view.log ≡ p.view.log
log_if p r true looks none' = ap (λ (z : PassView). z.view.log) (looks refl).same
log_if p r false looks none' = ap (λ (z : PassView). z.view.log) (none' refl)

pub handing_more : (epoch origin : ℕ) (start p q : PassView) (all es : List Entry) (x : Entry) (vs ws : List ℕ)
    → IsHanding epoch origin start all p (x ∷ es) vs → ripe_part epoch (x ∷ es) ≡ x ∷ ripe_part epoch es → Continues p q
    → q.view.log ≡ p.view.log ++ freeing x ∷ [] → IsCollecting epoch origin start all q es
    → MayHaveRead origin start q x vs ws → IsHanding epoch origin start all q es ws
handing_more epoch origin start p q all es x vs ws h more on log c new = record {
  collecting = c;
  freed = h.freed ++ x ∷ [];
  parts = h.parts ∙ sym (append_assoc h.freed (x ∷ []) es);
  log = log
      ∙ (ap (λ (l : List LogEntry). l ++ freeing x ∷ []) h.log
      ∙ (append_assoc start.view.log (map freeing h.freed) (freeing x ∷ [])
      ∙ ap (λ (l : List LogEntry). start.view.log ++ l) (sym (map-append freeing h.freed (x ∷ [])))));
  ripe = h.ripe ∙ (ap (λ (l : List Entry). h.freed ++ l) more
      ∙ sym (append_assoc h.freed (x ∷ []) (ripe_part epoch es)));
  read = read_push origin start q h.freed vs ws x (read_on origin start p q h.freed vs on h.read) new;
}

-- the looks before a free go on, and change nothing of this
module _ (p r : PassView) (slot count result : ℕ) (old new : List ℕ) (h : HandsOut p r slot count result old new) where
  pub handed_mid : IsInRun p → Continues p h.mid
  handed_mid run = continues_by_look p h.mid run h.looks.sees

  pub handed_rest : IsInRun p → Continues h.mid r
  handed_rest run = continues_if h.mid r h.bare (handed_mid run).run (λ e. (h.leaf e).0) (λ e. (h.other e).0)

  pub handed_continues : IsInRun p → Continues p r
  handed_continues run = continues_then p h.mid r (handed_mid run) (handed_rest run)

  pub mid_collecting : (epoch origin : ℕ) (start : PassView) (all now : List Entry)
      → IsCollecting epoch origin start all p now → IsCollecting epoch origin start all h.mid now
  mid_collecting epoch origin start all now c = collecting_sees epoch origin start p h.mid all now h.looks.sees c

  pub handed_collecting : (epoch origin : ℕ) (start : PassView) (all now : List Entry)
      → IsCollecting epoch origin start all p now → IsCollecting epoch origin start all r now
  handed_collecting epoch origin start all now c = collecting_if epoch origin start h.mid r all now h.bare
      (λ e. (h.leaf e).0) (λ e. (h.other e).0) (mid_collecting epoch origin start all now c)

  pub handed_log : r.view.log ≡ p.view.log
  handed_log = log_if h.mid r h.bare (λ e. (h.leaf e).0) (λ e. (h.other e).0)
      ∙ ap (λ (z : PassView). z.view.log) h.looks.sees.same

-- the node at the front was freed, after a look at its value if it is a leaf
pub handing_on : (epoch origin : ℕ) (start p r q : PassView) (all now later : List Entry) (vs ws : List ℕ)
    (n : NodeId) (count result : ℕ) (old new : List ℕ) → Continues start p → IsHanding epoch origin start all p now vs
    → ripe_front epoch now ≡ Some n
    → (h : HandsOut p r n.slot count result old new) → (h.bare ≡ true → ws ≡ vs ++ value_of r.view.stores n.slot ∷ [])
    → (h.bare ≡ false → ws ≡ vs)
    → TakesStep r q (Give n.slot) (give_reply r.view n.slot) → (y : Entry) → now ≡ y ∷ later
    → IsHanding epoch origin start all q later ws
handing_on epoch origin start p r q all [] later vs ws n count result old new on d ripe h values same step y
    is = absurd (none-some n ripe)
handing_on epoch origin start p r q all (x ∷ es) later vs ws n count result old new on d ripe h values same step y is =
    subst (λ (l : List Entry). IsHanding epoch origin start all q l ws) (ap (λ (l : List Entry). drop 1 l) is) here
  where
    at_r : Continues p r
    at_r = handed_continues p r n.slot count result old new h on.run

    c_r : IsCollecting epoch origin start all r (x ∷ es)
    c_r = handed_collecting p r n.slot count result old new h epoch origin start all (x ∷ es) d.collecting

    to_q : Continues r q
    to_q = continues_by r q (Give n.slot) (give_reply r.view n.slot) step

    c_q : IsCollecting epoch origin start all q es
    c_q = collecting_on epoch origin start r q all (x ∷ es) es x n at_r.run c_r ripe step.step refl

    node : (is_ripe epoch x ≡ true) × (x.node ≡ n)
    node = ripe_node (is_ripe epoch x) x.node n ripe

    log_q : q.view.log ≡ r.view.log ++ freeing x ∷ []
    log_q = freed_log epoch origin start r q all es x n at_r.run c_r ripe step.step

    found : (b : Bool) → h.bare ≡ b → WasFound origin start q x b
    found b e = record {
      at = h.mid;
      after = continues_then start p h.mid on (handed_mid p r n.slot count result old new h on.run);
      until = continues_then h.mid r q (handed_rest p r n.slot count result old new h on.run) to_q;
      later = es;
      waits = (mid_collecting p r n.slot count result old new h epoch origin start all (x ∷ es) d.collecting).queue;
      seen = h.looks.sees.seen;
      is = sym e ∙ (h.looks.is ∙ ap (λ (m : NodeId). is_bare h.mid.view h.looks.sees.seen m.slot) (sym node.1));
    }

    read : MayHaveRead origin start q x vs ws
    read = by h.bare refl
      where
        by : (b : Bool) → h.bare ≡ b → MayHaveRead origin start q x vs ws
        by true e = inr (
          value_of r.view.stores x.node.slot,
          record {
            found = found true e;
            at = r;
            after = handed_rest p r n.slot count result old new h on.run;
            until = to_q;
            later = es;
            waits = c_r.queue;
            seen = (h.leaf e).0.seen;
            value = refl;
          },
          values e ∙ ap (λ (m : NodeId). vs ++ value_of r.view.stores m.slot ∷ []) (sym node.1),
        )
        by false e = inl (found false e, same e)

    here : IsHanding epoch origin start all q es ws
    here = handing_more epoch origin start p q all es x vs ws d (ripe_more epoch x es node.0)
        (continues_then p r q at_r to_q)
        (log_q ∙ ap (λ (l : List LogEntry). l ++ freeing x ∷ []) (handed_log p r n.slot count result old new h)) c_q
        read

-- the values that were written, and their number
pub taken_on : (b : Bool) (vs base was now : List ℕ) (v : ℕ) → was ≡ base ++ vs → (b ≡ true → now ≡ was ++ v ∷ [])
    → (b ≡ false → now ≡ was) → now ≡ base ++ cond b (vs ++ v ∷ []) vs
taken_on true vs base was now v is more same = more refl
    ∙ (ap (λ (l : List ℕ). l ++ v ∷ []) is ∙ append_assoc base vs (v ∷ []))
taken_on false vs base was now v is more same = same refl ∙ is

pub room_on : (b : Bool) (written result long : ℕ) → written ≤ long
    → (b ≡ true → (result ≡ written + 1) × (nat_lt written long ≡ true)) → (b ≡ false → result ≡ written)
    → result ≤ long
room_on true written result long room more same = let one = (more refl).0 in
    let below = ltb-true written long (more refl).1 in omega (arith, one, below)
room_on false written result long room more same = let is = same refl in omega (arith, is, room)

pub more_on : (b : Bool) (first written result : ℕ) → first ≤ written → (b ≡ true → result ≡ written + 1)
    → (b ≡ false → result ≡ written) → first ≤ result
more_on true first written result less more same = let one = more refl in omega (arith, one, less)
more_on false first written result less more same = let is = same refl in omega (arith, is, less)

-- all that was ripe was freed if there was room
pub handed_front : (epoch : ℕ) (room : Bool) (p q : PassView) (h g : HeldQueue) (now : List Entry) (vs : List ℕ)
    → IsHanding epoch h.origin p h.queue.items q now vs → Continues p q → (room ≡ true → ripe_front epoch now ≡ None)
    → g.queue.items ≡ now → g.origin ≡ h.origin
    → g.counts ≡ freed_more (length h.queue.items - length now) h.counts → IsTrimmed h.queue g.queue
    → HandsFront epoch room p q h g vs
handed_front epoch room p q h g now vs d on all items origin counts trimmed =
    let sum = length-append d.freed now in
    let long : length h.queue.items ≡ length (d.freed ++ now) = ap (λ (l : List Entry). length l) d.parts in
    record {
      on = on;
      freed = d.freed;
      handed = record {
        parts = d.parts ∙ ap (λ (l : List Entry). d.freed ++ l) (sym items);
        ripe = d.ripe ∙ ap (λ (l : List Entry). d.freed ++ ripe_part epoch l) (sym items);
        read = d.read;
        origin = origin;
        counts = counts ∙ ap (λ (n : ℕ). freed_more n h.counts) (omega (arith, sum, long));
      };
      entries = d.log;
      all = λ there. ap (λ (l : List Entry). ripe_front epoch l) items ∙ all there;
      blocks = trimmed;
      queue = rw origin (subst (λ (l : List Entry). IsQueueOf (knowledge q.view) h.origin l) (sym items)
          d.collecting.queue);
      others = d.collecting.others;
      only = d.collecting.only;
    }
