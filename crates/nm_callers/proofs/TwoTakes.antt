-- Two deletes of one key have taken the values of their own acts.
use Rattle.std.proofs.Common.{◌≡◌, ◌≢◌, inl, inr, ℕ, true, List, [], ◌∷◌, ◌++◌, refl, sym, ap, subst, ◌∙◌, arith}
use Rattle.std.specs.Prelude.{Contains, Some}
use Rattle.std.proofs.lemmas.Option.{none-some, same_Some}
use Rattle.nm_edge.specs.Layouts.{Layout, IsLayout}
use Rattle.nm_model.specs.declared.event.Op.TheVariants.{Delete}
use Rattle.nm_model.specs.Acts.{Act}
use Rattle.nm_model.specs.Histories.{AnswerStands, Called, IsHistory}
use Rattle.nm_order.specs.Logs.{part_of}
use Rattle.nm_steps.specs.Rules.{Extends, ExtendsStores}
use Rattle.nm_steps.specs.Steps.{HasSeen, PassView}
use Rattle.nm_steps.specs.Values.{HasSeenStores}
use Rattle.nm_steps.proofs.Growing.{goes_on_itself, goes_on_through}
use Rattle.nm_steps.proofs.Seeing.{stores_through}
use Rattle.nm_walks.specs.WonCounts.{won_flags}
use Rattle.nm_calls.specs.MapHistories.{AreOfMaps, GivesEach, HasDelete, IsMapHistory, MapAct, PutsThere, WonOneFlag, found_by, map_after, no_map}
use Rattle.nm_calls.specs.Maps.{HoldsStores, WasTaken}
use Rattle.nm_calls.specs.Won.{HasWon}
use Rattle.nm_calls.proofs.PlainMaps.{In, Last, contained_in, contains_in, gives_at, in_right, last_of, put_last, split_in, untouched}
use Rattle.nm_calls.proofs.PlainMaps.Last.{Put, Taken, Untouched}
use Rattle.nm_calls.proofs.StoresInTurns.{stores_in_turns}
use Rattle.nm_callers.specs.TakenTwice.{AreTwoDeletes, HasOwnDelete, TookByDelete, WasPutBefore}

-- the flags of a log are those of the worker's part of its turns
pub won_one : (p q : PassView) → HasSeen p.view → HasSeen q.view → p.view.number ≡ q.view.number
    → HasWon p.view.log q.view.log 0 1 → WonOneFlag q.view.number p.view.past q.view.past
won_one p q first last same won =
    let a = ap won_flags last.is_part in
    let b = ap won_flags first.is_part in
    let c = ap (λ (w : ℕ). won_flags (part_of w p.view.past)) same in
    let d = won.flags in
    omega (arith, a, b, c, d)

-- ---- what a delete takes was put

put_before : (valued : List MapAct) → GivesEach no_map valued → (x : MapAct) → Contains valued x → x.act.op ≡ Delete
    → x.act.answer ≡ true → WasPutBefore valued x
put_before valued gives x c o t =
    let s = split_in valued x (contained_in valued x c) in
    let found : map_after no_map s.0 x.act.key ≡ Some x.value
    = gives_at s.0 s.1 x no_map (subst (GivesEach no_map) s.2 gives) ∙ (λ j. found_by (o j) (t j) x.value) in
    by s.0 s.1 s.2 found (last_of s.0 no_map x.act.key)
  where
    by : (front back : List MapAct) → valued ≡ front ++ x ∷ back → map_after no_map front x.act.key ≡ Some x.value
        → Last front no_map x.act.key → WasPutBefore valued x
    by front back are found (Untouched none') = absurd
        (none-some x.value (sym (untouched front no_map x.act.key none') ∙ found))
    by front back are found (Taken gone) = absurd (none-some x.value (sym gone ∙ found))
    by front back are found (Put f b a u parts puts key none') = (
      front,
      back,
      are,
      a,
      contains_in front a (subst (λ (l : List MapAct). In l a) (sym parts) (in_right f (a ∷ b) a (inl refl))),
      subst (PutsThere a) (same_Some u x.value (sym (put_last f b a no_map x.act.key u puts key none')
          ∙ (ap (λ (l : List MapAct). map_after no_map l x.act.key) (sym parts) ∙ found))) puts,
      key,
    )

-- ---- the two of them

-- by what a reader has seen that has heard of the worker
module _ (q : PassView) (seen : HasSeenStores q.view) (fits : IsLayout q.view.layout)
    (maps : AreOfMaps q.view.layout q.view.past) where
  abbrev L : Layout
  L = q.view.layout

  abbrev held : HoldsStores q.view.layout q.view.past q.view.past q.view.stores
  held = stores_in_turns q.view fits seen q.view.past (goes_on_itself q.view.past)

  own_delete : (o p : PassView) (k v : ℕ) → p.view.layout ≡ q.view.layout → Extends q.view.past p.view.past
      → ExtendsStores q.view.stores p.view.stores → TookByDelete o p k v
      → (acts : List Act) → IsHistory q.view.layout held.until acts → (valued : List MapAct)
      → IsMapHistory q.view.layout held.until q.view.stores acts valued → HasOwnDelete valued p.view.number k v
  own_delete o p k v layout on stores took acts h valued m =
      let taken : WasTaken q.view.layout o.view.past p.view.past p.view.stores p.view.number k v
      = subst (λ (l : Layout). WasTaken l o.view.past p.view.past p.view.stores p.view.number k v) layout took.taken in
      let answer : AnswerStands q.view.layout o.view.past p.view.past p.view.number Delete k true
      = subst (λ (l : Layout). AnswerStands l o.view.past p.view.past p.view.number Delete k true) layout took.moment in
      let d : HasDelete valued p.view.number answer.pin k v
      = maps.taken q.view.past q.view.stores held o.view.past p.view.past p.view.stores p.view.number k v taken
      answer took.one
      (goes_on_through held.until q.view.past p.view.past held.from on)
      (stores_through taken.first p.view.stores q.view.stores taken.extends stores) acts h valued m in
      record { pin = answer.pin; act = d; put = put_before valued m.gives d.0 d.1 (ap (λ (c : Called). c.op) d.3) d.4 }

  pub are_two_deletes : (o p n r : PassView) (k x y : ℕ) → p.view.layout ≡ q.view.layout
      → r.view.layout ≡ q.view.layout → Extends q.view.past p.view.past → Extends q.view.past r.view.past
      → ExtendsStores q.view.stores p.view.stores → ExtendsStores q.view.stores r.view.stores
      → p.view.number ≢ r.view.number → TookByDelete o p k x → TookByDelete n r k y
      → AreTwoDeletes q p.view.number r.view.number k x y
  are_two_deletes o p n r k x y first second on on' stores stores' apart took took' = record {
    until = held.until;
    ends = held.ends;
    stores = q.view.stores;
    history = (maps.histories q.view.past q.view.stores held).0;
    each = λ acts h.
        let v = (maps.histories q.view.past q.view.stores held).1 acts h in
        let a = own_delete o p k x first on stores took acts h v.0 v.1 in
        let b = own_delete n r k y second on' stores' took' acts h v.0 v.1 in
        (v.0, v.1, a, b, λ same. apart (sym a.act.2 ∙ (ap (λ (z : MapAct). z.act.worker) same ∙ b.act.2)));
  }
