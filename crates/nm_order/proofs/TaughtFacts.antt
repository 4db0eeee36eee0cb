-- What an entry teaches of edges and births, and what a pin for a call knows at once.
use Rattle.std.proofs.Common.{◌≡◌, ◌≢◌, ℕ, ◌≤◌, inr, eqb, Bool, true, false, not, ◌&&◌, ◌||◌, List, [], ◌∷◌, ◌++◌, refl, sym, ap, subst, ◌∙◌}
use Rattle.std.specs.Prelude.{Option, Some}
use Rattle.std.proofs.lemmas.Bool.{cond-true, cond-false, eq-eqb, ne_eqb, and_from, or_right}
use Rattle.nm_edge.specs.Edges.{Edge, tagged}
use Rattle.nm_edge.specs.Layouts.{Layout}
use Rattle.nm_edge.specs.declared.edge.Side.{Side}
use Rattle.nm_edge.specs.declared.edge.Side.TheVariants.{Left, Right}
use Rattle.nm_model.specs.declared.event.Event.TheVariants.{SightFor, Look, Tag}
use Rattle.nm_model.specs.declared.event.Field.TheVariants.{Edge as EdgeOn, Birth}
use Rattle.nm_model.specs.declared.knowledge.Seen.{Seen}
use Rattle.nm_model.specs.declared.reply.Reply.TheVariants.{Pinned, BirthIs, EdgeIs, Was}
use Rattle.nm_model.specs.Knowledge.{Knowledge, knows, is_private, seen_of, read, knows_leaf, is_null}
use Rattle.nm_model.specs.Learning.{learn, look_known, look_private, met, read_edge, with_read, flag_to, pinned, saw}
use Rattle.nm_model.specs.Searches.{Search, idle, searched}
use Rattle.nm_model.specs.Walks.{Entry, search_after}
use Rattle.nm_laws.proofs.Learned.{learn_look, learn_link_lost, learn_flagged, learn_flag_lost, learn_was, learn_splice_lost, learn_swap_lost, learn_sight_for, learn_pinned}
use Rattle.nm_model.proofs.Tables.{has_put_there}
use Rattle.nm_laws.proofs.Trees.{same_side, same_side-refl}
use Rattle.nm_laws.proofs.Views.{read_after, read_birth, seen_put}
use Rattle.nm_order.specs.Logs.{known_by, IsLogOf}
use Rattle.nm_order.specs.Facts.{Holds}
use Rattle.nm_order.specs.Taught.{EdgeLearned, EdgesAreLearned, TagsAreLearned, TagsFreeze, FlagsAreLearned, BirthsAreLearned, PinsAreLearned}
use Rattle.nm_order.specs.Told.{TellsEdge, OfEachEntry}
use Rattle.nm_order.specs.Told.TellsEdge.{ByLook, ByLink, ByFlag, ByTag, BySplice, BySwap}
use Rattle.nm_order.proofs.LastEntries.{known_more, search_more, LastEntry, last_entry}
use Rattle.nm_order.proofs.ToldLaws.{lawful_before, live_then, tags_lead}
use Rattle.nm_order.proofs.OrderedSteps.{met_is_known}

-- ---- an edge that was read

module _ (k : Knowledge) (x : ℕ) (side : Side) (e : Edge) where
  pub is_read : read (read_edge k x side e) x side ≡ Some e
  is_read = read_after k x side e x side ∙ cond-true (eqb x x && same_side side side) (Some e) (read k x side)
      (and_from (eqb x x) (same_side side side) (eq-eqb x x refl) (same_side-refl side))

  leads_known : e.slot ≢ 0 → knows (read_edge k x side e) e.slot ≡ true
  leads_known some = has_put_there (met k.known e.slot) x (with_read (seen_of k x) side e) e.slot
      (inr (met_is_known k.known e.slot some))

  null_known : e.slot ≡ 0 → knows_leaf (read_edge k x side e) x ≡ true
  null_known null = go side is_read
    where
      null_read : (o : Option Edge) → o ≡ Some e → is_null o ≡ true
      null_read o is = ap is_null is ∙ eq-eqb e.slot 0 null

      go : (d : Side) → read (read_edge k x side e) x d ≡ Some e → knows_leaf (read_edge k x side e) x ≡ true
      go Left is = ap (λ (b : Bool). b || is_null (read (read_edge k x side e) x Right))
          (null_read (read (read_edge k x side e) x Left) is)
      go Right is = ap (λ (b : Bool). is_null (read (read_edge k x side e) x Left) || b)
          (null_read (read (read_edge k x side e) x Right) is)
          ∙ or_right (is_null (read (read_edge k x side e) x Left)) true refl

-- ---- what an entry that tells an edge leaves

-- it is read as an edge to the same slot, with its marks
record ReadSo (k l : Knowledge) (x : ℕ) (side : Side) (e : Edge) : Type 0 where
  edge : Edge
  becomes : l ≡ read_edge k x side edge
  slot : edge.slot ≡ e.slot
  tag : e.tag ≡ true → edge.tag ≡ true
  flag : e.flag ≡ true → edge.flag ≡ true

as_told : (k l : Knowledge) (x : ℕ) (side : Side) (e : Edge) → l ≡ read_edge k x side e → ReadSo k l x side e
as_told k l x side e is = record { edge = e; becomes = is; slot = refl; tag = λ h. h; flag = λ h. h }

looked_at : (w : ℕ) (k : Knowledge) (x : ℕ) (side : Side) (e : Edge) → is_private k x ≡ false
    → learn w k (Look x (EdgeOn side)) (EdgeIs e) ≡ read_edge k x side e
looked_at w k x side e shared = learn_look w k x (EdgeOn side) (EdgeIs e)
    ∙ cond-false (is_private k x) (look_private k x (EdgeOn side) (EdgeIs e))
    (look_known k x (EdgeOn side) (EdgeIs e)) shared

-- a tag leaves an edge that is tagged, as it is not null
is_tagged : (e : Edge) → e.slot ≢ 0 → (tagged e).tag ≡ true
is_tagged e some = ap not (ne_eqb e.slot 0 some)

read_so : (w : ℕ) (k : Knowledge) (entry : Entry) (x : ℕ) (side : Side) (e : Edge) → TellsEdge entry x side e
    → is_private k x ≡ false → (entry ≡ (Tag x side, Was e) → e.slot ≢ 0)
    → ReadSo k (learn w k entry.0 entry.1) x side e
read_so w k _ _ _ _ (ByLook x side e) shared leads = as_told k _ x side e (looked_at w k x side e shared)
read_so w k _ _ _ _ (ByLink x leaf new side e) shared leads = as_told k _ x side e
    (learn_link_lost w k x side leaf new e)
read_so w k _ _ _ _ (ByFlag x leaf side e) shared leads = as_told k _ x side e (learn_flag_lost w k x side leaf e)
read_so w k _ _ _ _ (ByTag x side e) shared leads =
    record {
      edge = tagged e;
      becomes = learn_was w k x side e;
      slot = refl;
      tag = λ _. is_tagged e (leads refl);
      flag = λ h. h;
    }
read_so w k _ _ _ _ (BySplice x s p side keep e) shared leads = as_told k _ x side e
    (learn_splice_lost w k x side s p keep e)
read_so w k _ _ _ _ (BySwap x leaf new side e) shared leads =
    as_told k _ x side e (learn_swap_lost w k x side leaf new e)

-- ---- logs

module _ (L : Layout) (enough : 5 ≤ L.nodes) (w : ℕ) (log : List Entry) (entry : Entry)
    (l : IsLogOf L w (log ++ entry ∷ [])) where
  becomes : known_by L w (log ++ entry ∷ []) ≡ learn w (known_by L w log) entry.0 entry.1
  becomes = known_more w _ log entry

  -- a known slot is private to nobody
  shared_then : (x : ℕ) → knows (known_by L w log) x ≡ true → is_private (known_by L w log) x ≡ false
  shared_then x known = go (last_entry L enough w log entry l)
    where
      go : LastEntry L w log entry → is_private (known_by L w log) x ≡ false
      go last =
          let law = lawful_before L enough w log entry last in
          let live = live_then last.before.state law.0 law.1 w x
          (ap (λ (k : Knowledge). knows k x) last.told.knows ∙ known) in
          ap (λ (k : Knowledge). is_private k x) (sym last.told.knows) ∙ live.shared w

  module _ (x : ℕ) (side : Side) (e : Edge) (r : ReadSo (known_by L w log)
      (learn w (known_by L w log) entry.0 entry.1) x side e) where
    read_now : known_by L w (log ++ entry ∷ []) ≡ read_edge (known_by L w log) x side r.edge
    read_now = becomes ∙ r.becomes

    edge_now : read (known_by L w (log ++ entry ∷ [])) x side ≡ Some r.edge
    edge_now = ap (λ (k : Knowledge). read k x side) read_now ∙ is_read (known_by L w log) x side r.edge

    learned : EdgeLearned (Holds L w (log ++ entry ∷ [])) x side e
    learned = record {
      leads = λ some. subst (λ (y : ℕ). knows (known_by L w (log ++ entry ∷ [])) y ≡ true) r.slot
          (ap (λ (k : Knowledge). knows k r.edge.slot) read_now
          ∙ leads_known (known_by L w log) x side r.edge (λ null. some (sym r.slot ∙ null)));
      leaf = λ null. ap (λ (k : Knowledge). knows_leaf k x) read_now
          ∙ null_known (known_by L w log) x side r.edge (r.slot ∙ null);
      tagged = λ tag. (r.edge, edge_now, r.tag tag, r.slot);
      flagged = λ flag. (r.edge, edge_now, r.flag flag, r.slot);
    }

pub edges_are_learned : OfEachEntry EdgesAreLearned
edges_are_learned L enough w log entry l x side e tells known =
    learned L enough w log entry l x side e (read_so w (known_by L w log) entry x side e tells
    (shared_then L enough w log entry l x known) (tags_lead L enough w log entry l x side e))

pub tags_are_learned : OfEachEntry TagsAreLearned
tags_are_learned L enough w log entry l x side e is =
    let now : known_by L w (log ++ entry ∷ []) ≡ read_edge (known_by L w log) x side (tagged e) =
    becomes L enough w log entry l ∙ (ap (λ (y : Entry). learn w (known_by L w log) y.0 y.1) is
    ∙ learn_was w (known_by L w log) x side e) in (
      tagged e,
      ap (λ (k : Knowledge). read k x side) now
          ∙ is_read (known_by L w log) x side (tagged e),
      is_tagged e (tags_lead L enough w log entry l x side e is),
      refl,
    )

pub tags_freeze : OfEachEntry TagsFreeze
tags_freeze L enough w log entry l x side e is =
    let now : known_by L w (log ++ entry ∷ []) ≡ read_edge (known_by L w log) x side (tagged e) =
    becomes L enough w log entry l ∙ (ap (λ (y : Entry). learn w (known_by L w log) y.0 y.1) is
    ∙ learn_was w (known_by L w log) x side e) in (
      ap (λ (k : Knowledge). read k x side) now ∙ is_read (known_by L w log) x side (tagged e),
      is_tagged e
          (tags_lead L enough w log entry l x side e is),
    )

pub flags_are_learned : OfEachEntry FlagsAreLearned
flags_are_learned L enough w log entry l p leaf side n is =
    let now : known_by L w (log ++ entry ∷ []) ≡ read_edge (known_by L w log) p side (flag_to leaf) =
    becomes L enough w log entry l ∙ (ap (λ (y : Entry). learn w (known_by L w log) y.0 y.1) is
    ∙ learn_flagged w (known_by L w log) p side leaf n) in (
      flag_to leaf,
      ap (λ (k : Knowledge). read k p side) now
          ∙ is_read (known_by L w log) p side (flag_to leaf),
      refl,
      refl,
    )

born : (w : ℕ) (k : Knowledge) (x b : ℕ) → is_private k x ≡ false
    → learn w k (Look x Birth) (BirthIs b) ≡ read_birth k x b
born w k x b shared = learn_look w k x Birth (BirthIs b)
    ∙ cond-false (is_private k x) (look_private k x Birth (BirthIs b)) (look_known k x Birth (BirthIs b)) shared

birth_read : (k : Knowledge) (x b : ℕ) → (seen_of (read_birth k x b) x).birth ≡ Some b
birth_read k x b = ap (λ (n : Seen). n.birth) (seen_put k.known x (record (seen_of k x) { birth = Some b }) x
    ∙ cond-true (eqb x x) (record (seen_of k x) { birth = Some b }) (seen_of k x) (eq-eqb x x refl))

pub births_are_learned : OfEachEntry BirthsAreLearned
births_are_learned L enough w log entry l x b is known =
    let now : known_by L w (log ++ entry ∷ []) ≡ read_birth (known_by L w log) x b =
    becomes L enough w log entry l ∙ (ap (λ (y : Entry). learn w (known_by L w log) y.0 y.1) is
    ∙ born w (known_by L w log) x b (shared_then L enough w log entry l x known)) in
    ap (λ (k : Knowledge). (seen_of k x).birth) now ∙ birth_read (known_by L w log) x b

pub pins_are_learned : OfEachEntry PinsAreLearned
unfolding searched
pins_are_learned L enough w log entry l op key epoch is =
    let now : known_by L w (log ++ entry ∷ []) ≡ pinned (saw (known_by L w log) epoch) epoch =
    becomes L enough w log entry l ∙ (ap (λ (y : Entry). learn w (known_by L w log) y.0 y.1) is
    ∙ (learn_sight_for w (known_by L w log) op key (Pinned epoch) ∙ learn_pinned w (known_by L w log) epoch)) in
    let search : search_after idle (log ++ entry ∷ [])
    ≡ searched (search_after idle log) (SightFor op key) (Pinned epoch) =
    search_more idle log entry ∙ ap (λ (y : Entry). searched (search_after idle log) y.0 y.1) is in
    record {
      pinned = ap (λ (k : Knowledge). k.brief.pin) now;
      root = ap (λ (k : Knowledge). knows k 1) now;
      second = ap (λ (k : Knowledge). knows k 2) now;
      call = ap (λ (s : Search). s.call) search;
    }
