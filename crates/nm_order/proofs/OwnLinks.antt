-- A call wins one link or one flag at most, and its answer tells whether it did.
use Rattle.std.proofs.Common.{◌≡◌, ℕ, Bool, true, false, cond, not, ◌&&◌, refl, sym, ap, subst, ◌∙◌, true≢false}
use Rattle.std.specs.Prelude.{Option, Some, None, is_some, is_none}
use Rattle.std.specs.List.{list_any}
use Rattle.std.proofs.lemmas.Bool.{and_parts, or_parts, not-false, not-true}
use Rattle.std.proofs.lemmas.Option.{same_Some}
use Rattle.nm_edge.specs.Layouts.{Layout}
use Rattle.nm_edge.specs.declared.edge.Side.{Side}
use Rattle.nm_edge.specs.declared.node.NodeId.{NodeId}
use Rattle.nm_model.specs.declared.event.Op.{Op}
use Rattle.nm_model.specs.declared.event.Op.TheVariants.{Has, Insert, Delete}
use Rattle.nm_model.specs.declared.event.Event.{Event}
use Rattle.nm_model.specs.declared.event.Event.TheVariants.{Leave, LeaveWith, Link, Flag}
use Rattle.nm_model.specs.declared.reply.Reply.{Reply}
use Rattle.nm_model.specs.declared.reply.Reply.TheVariants.{Linked, Flagged}
use Rattle.nm_model.specs.declared.reply.Refused.TheVariants.{NotOrdered, NoAnswer}
use Rattle.nm_model.specs.declared.arrivals.Call.{Call}
use Rattle.nm_model.specs.Maps.{is_number}
use Rattle.nm_model.specs.Knowledge.{Knowledge}
use Rattle.nm_model.specs.Searches.{Search, searched}
use Rattle.nm_model.specs.Walks.{begins_anew}
use Rattle.nm_model.specs.Ordered.{disorder, shows, shows_call, has_put_in, inserts, deletes, links_in_order, flags_in_order, shows_place, may_flag_at, new_leaf, has_removed}
use Rattle.nm_order.specs.Exchanges.{is_won_link, links_told, flags_told}
use Rattle.nm_order.specs.WalksToArrivals.{is_won_flag}
use Rattle.nm_laws.proofs.Steps.{passed}
use Rattle.nm_laws.proofs.SearchesGrow.{look_beside, begun_is, search_goes}
use Rattle.nm_order.proofs.OwnExchanges.{IsOnce}

-- ---- links

pub record IsLinkEntry (e : Event) (r : Reply) : Type 0 where
  pub parent : ℕ
  pub side : Side
  pub leaf : ℕ
  pub new : ℕ
  pub node : NodeId
  pub is_event : e ≡ Link parent side leaf new
  pub is_reply : r ≡ Linked node

pub link_entry : (e : Event) (r : Reply) → is_won_link (e, r) ≡ true → IsLinkEntry e r
link_entry (Link parent side leaf new) (Linked n) such =
    record { parent = parent; side = side; leaf = leaf; new = new; node = n; is_event = refl; is_reply = refl }
link_entry e r such = absurd (true≢false (sym such))

abbrev pub has_linked : Search → Bool
has_linked S = S.linked

link_anew : (S : Search) (e : Event) (r : Reply) → begins_anew (e, r) ≡ true → has_linked (searched S e r) ≡ false
link_anew S e r anew = ap has_linked (begun_is S e r anew)

link_kept : (S : Search) (e : Event) (r : Reply) → begins_anew (e, r) ≡ false → is_won_link (e, r) ≡ false
    → has_linked (searched S e r) ≡ has_linked S
link_kept S = search_goes (λ e r T. is_won_link (e, r) ≡ false → has_linked T ≡ has_linked S) S
    (λ x f r plain. ap has_linked (look_beside S S.call x f r)) (λ p d leaf new n plain. absurd (true≢false plain))
    (λ p d leaf n plain. refl) (λ a d x p keep ns plain. refl) (λ p d leaf new ns plain. refl) (λ e r plain. refl)

link_done : (S : Search) (e : Event) (r : Reply) → is_won_link (e, r) ≡ true → has_linked (searched S e r) ≡ true
unfolding searched
link_done S (Link p d leaf new) (Linked n) such = refl
link_done S e r such = absurd (true≢false (sym such))

-- a link in order is of a call to insert that has not linked
pub record MayLink (S : Search) : Type 0 where
  pub call : Call
  pub is_call : S.call ≡ Some call
  pub is_op : call.op ≡ Insert
  pub fresh : S.linked ≡ false

pub may_link : (K : Layout) (k : Knowledge) (S : Search) (p : ℕ) (d : Side) (leaf new : ℕ)
    → disorder K k S (Link p d leaf new) ≡ None → MayLink S
may_link K k S p d leaf new order = by S.call refl
    (not-false (links_in_order K k S S.call p d leaf new) (passed _ NotOrdered None order).0)
  where
    by : (o : Option Call) → S.call ≡ o → links_in_order K k S o p d leaf new ≡ true → MayLink S
    by None is t = absurd (true≢false (sym t))
    by (Some call) is t = on call.op refl t
      where
        on : (op : Op) → call.op ≡ op → inserts K k S op call.key p d leaf new ≡ true → MayLink S
        on Has i t = absurd (true≢false (sym t))
        on Delete i t = absurd (true≢false (sym t))
        on Insert i t = record {
          call = call;
          is_call = is;
          is_op = i;
          fresh = (or_parts S.linked S.swapped (not-true (has_put_in S)
              (and_parts (not (has_put_in S))
              (is_number (new_leaf k leaf new).key call.key
              && shows_place K k call.key p d leaf new S.walks) t).0)).0;
        }

link_order : (K : Layout) (k : Knowledge) (S : Search) (e : Event) (r : Reply) → disorder K k S e ≡ None
    → is_won_link (e, r) ≡ true → MayLink S
link_order K k S e r order such = let l = link_entry e r such in
    may_link K k S l.parent l.side l.leaf l.new (subst (λ (x : Event). disorder K k S x ≡ None) l.is_event order)

pub links_once : IsOnce is_won_link has_linked Insert
links_once = record {
  anew = link_anew;
  kept = link_kept;
  done = link_done;
  once = λ K k S e r order such. (link_order K k S e r order such).fresh;
  of_op = λ K k S e r order such call is. let m = link_order K k S e r order such in
      ap (λ (c : Call). c.op) (same_Some call m.call (sym is ∙ m.is_call)) ∙ m.is_op;
}

-- ---- flags

pub record IsFlagEntry (e : Event) (r : Reply) : Type 0 where
  pub parent : ℕ
  pub side : Side
  pub leaf : ℕ
  pub node : NodeId
  pub is_event : e ≡ Flag parent side leaf
  pub is_reply : r ≡ Flagged node

pub flag_entry : (e : Event) (r : Reply) → is_won_flag (e, r) ≡ true → IsFlagEntry e r
flag_entry (Flag parent side leaf) (Flagged n) such =
    record { parent = parent; side = side; leaf = leaf; node = n; is_event = refl; is_reply = refl }
flag_entry e r such = absurd (true≢false (sym such))

abbrev pub has_flagged : Search → Bool
has_flagged S = is_some S.flagged

flag_anew : (S : Search) (e : Event) (r : Reply) → begins_anew (e, r) ≡ true → has_flagged (searched S e r) ≡ false
flag_anew S e r anew = ap has_flagged (begun_is S e r anew)

flag_kept : (S : Search) (e : Event) (r : Reply) → begins_anew (e, r) ≡ false → is_won_flag (e, r) ≡ false
    → has_flagged (searched S e r) ≡ has_flagged S
flag_kept S = search_goes (λ e r T. is_won_flag (e, r) ≡ false → has_flagged T ≡ has_flagged S) S
    (λ x f r plain. ap has_flagged (look_beside S S.call x f r)) (λ p d leaf new n plain. refl)
    (λ p d leaf n plain. absurd (true≢false plain)) (λ a d x p keep ns plain. refl) (λ p d leaf new ns plain. refl)
    (λ e r plain. refl)

flag_done : (S : Search) (e : Event) (r : Reply) → is_won_flag (e, r) ≡ true → has_flagged (searched S e r) ≡ true
unfolding searched
flag_done S (Flag p d leaf) (Flagged n) such = refl
flag_done S e r such = absurd (true≢false (sym such))

-- a flag in order is of a call to delete that has not flagged, where a walk of it ended at the
-- leaf, and that had its key
pub record MayFlag (S : Search) (p : ℕ) (d : Side) (leaf : ℕ) : Type 0 where
  pub call : Call
  pub is_call : S.call ≡ Some call
  pub is_op : call.op ≡ Delete
  pub fresh : is_some S.flagged ≡ false
  pub walked : list_any (may_flag_at call.key p d leaf) S.walks ≡ true

pub may_flag : (K : Layout) (k : Knowledge) (S : Search) (p : ℕ) (d : Side) (leaf : ℕ)
    → disorder K k S (Flag p d leaf) ≡ None → MayFlag S p d leaf
may_flag K k S p d leaf order = by S.call refl (not-false (flags_in_order S S.call p d leaf)
    (passed _ NotOrdered None order).0)
  where
    no : (o : Option NodeId) → is_none o ≡ true → is_some o ≡ false
    no None h = refl
    no (Some n) h = absurd (true≢false (sym h))

    by : (o : Option Call) → S.call ≡ o → flags_in_order S o p d leaf ≡ true → MayFlag S p d leaf
    by None is t = absurd (true≢false (sym t))
    by (Some call) is t = on call.op refl t
      where
        on : (op : Op) → call.op ≡ op → deletes S op call.key p d leaf ≡ true → MayFlag S p d leaf
        on Has i t = absurd (true≢false (sym t))
        on Insert i t = absurd (true≢false (sym t))
        on Delete i t =
            let parts = and_parts (is_none S.flagged) (list_any (may_flag_at call.key p d leaf) S.walks) t in
            record { call = call; is_call = is; is_op = i; fresh = no S.flagged parts.0; walked = parts.1 }

-- a flag in order is the first of its call
pub first_flag : (K : Layout) (k : Knowledge) (S : Search) (p leaf : ℕ) (d : Side)
    → disorder K k S (Flag p d leaf) ≡ None → S.flagged ≡ None
first_flag K k S p leaf d order = none S.flagged (may_flag K k S p d leaf order).fresh
  where
    none : (o : Option NodeId) → is_some o ≡ false → o ≡ None
    none None is = refl
    none (Some n) is = absurd (true≢false is)

flag_order : (K : Layout) (k : Knowledge) (S : Search) (e : Event) (r : Reply) → disorder K k S e ≡ None
    → (such : is_won_flag (e, r) ≡ true) → MayFlag S (flag_entry e r such).parent (flag_entry e r such).side
    (flag_entry e r such).leaf
flag_order K k S e r order such = let l = flag_entry e r such in
    may_flag K k S l.parent l.side l.leaf (subst (λ (x : Event). disorder K k S x ≡ None) l.is_event order)

pub flags_once : IsOnce is_won_flag has_flagged Delete
flags_once = record {
  anew = flag_anew;
  kept = flag_kept;
  done = flag_done;
  once = λ K k S e r order such. (flag_order K k S e r order such).fresh;
  of_op = λ K k S e r order such call is. let m = flag_order K k S e r order such in
      ap (λ (c : Call). c.op) (same_Some call m.call (sym is ∙ m.is_call)) ∙ m.is_op;
}

-- ---- what an answer shows

-- what the search of a call shows, where it may leave with an answer
pub answer_shown : (K : Layout) (k : Knowledge) (S : Search) (answer : Bool) (call : Call) → S.call ≡ Some call
    → disorder K k S (LeaveWith answer) ≡ None → shows S call.op call.key answer ≡ true
answer_shown K k S answer call is order = ap (λ (o : Option Call). shows_call S o answer) (sym is)
    ∙ not-false (shows_call S S.call answer) (passed _ NoAnswer None order).0

pub links_shown : (S : Search) (op : Op) (key : ℕ) (answer : Bool) → shows S op key answer ≡ true
    → (has_linked S ≡ true → op ≡ Insert) → cond (has_linked S) 1 0 ≡ links_told op answer
links_shown S op key answer shown is_op = by S.linked refl op answer shown (λ i. is_op i)
  where
    by : (b : Bool) → S.linked ≡ b → (op : Op) (answer : Bool) → shows S op key answer ≡ true
        → (S.linked ≡ true → op ≡ Insert) → cond b 1 0 ≡ links_told op answer
    by true is Insert true shown is_op = refl
    by true is Insert false shown is_op = absurd (true≢false (sym (and_parts _ (not S.linked) shown).1 ∙ ap not is))
    by true is Has answer shown is_op = absurd (other (is_op is))
      where
        other : Has ≡ Insert → ⊥
        other h = cc
    by true is Delete answer shown is_op = absurd (other (is_op is))
      where
        other : Delete ≡ Insert → ⊥
        other h = cc
    by false is Insert true shown is_op = absurd (true≢false (sym shown ∙ is))
    by false is Insert false shown is_op = refl
    by false is Has answer shown is_op = refl
    by false is Delete answer shown is_op = refl

pub flags_shown : (S : Search) (op : Op) (key : ℕ) (answer : Bool) → shows S op key answer ≡ true
    → (has_flagged S ≡ true → op ≡ Delete) → cond (has_flagged S) 1 0 ≡ flags_told op answer
flags_shown S op key answer shown is_op = by S.flagged refl op answer shown (λ i. is_op i)
  where
    by : (o : Option NodeId) → S.flagged ≡ o → (op : Op) (answer : Bool) → shows S op key answer ≡ true
        → (is_some S.flagged ≡ true → op ≡ Delete) → cond (is_some o) 1 0 ≡ flags_told op answer
    by (Some n) is Delete true shown is_op = refl
    by (Some n) is Delete false shown is_op = absurd
        (true≢false (sym (and_parts _ (is_none S.flagged) shown).1 ∙ ap is_none is))
    by (Some n) is Has answer shown is_op = absurd (other (is_op (ap is_some is)))
      where
        other : Has ≡ Delete → ⊥
        other h = cc
    by (Some n) is Insert answer shown is_op = absurd (other (is_op (ap is_some is)))
      where
        other : Insert ≡ Delete → ⊥
        other h = cc
    by None is Delete true shown is_op = absurd (true≢false (sym shown ∙ ap (has_removed S) is))
    by None is Delete false shown is_op = refl
    by None is Has answer shown is_op = refl
    by None is Insert answer shown is_op = refl

-- a search that may leave without an answer has neither linked nor flagged
pub silent : (K : Layout) (k : Knowledge) (S : Search) → disorder K k S Leave ≡ None
    → (S.linked ≡ false) × (is_some S.flagged ≡ false)
silent K k S order = let parts = or_parts (has_put_in S) (is_some S.flagged) (passed _ NoAnswer None order).0 in
    ((or_parts S.linked S.swapped parts.0).0, parts.1)
