-- The events of tasks.
use Rattle.std.proofs.Common.{◌≡◌, ℕ, ◌+◌, ◌<◌, List, [], ◌∷◌, ◌++◌, reverse, length, get_or, take, drop, set, sym, refl, ap, ◌∙◌, subst, ap₂, append-nil, arith}
use mathlib.Core.List.{reverse-cons}
use Rattle.std.proofs.lemmas.List.{reverse-reverse, take_more, take_more_set, drop_more, drop-set-lt}
use Rattle.algebra.specs.declared.Field.{Ghosts}
use Rattle.unit.specs.Commissioning.{SealedWith}
use Rattle.unit.specs.Days.{Event, event, Throughout}
use Rattle.unit.specs.Law.{HasLived, BlockLaw, OrderLaw, Ordered}
use Rattle.unit.specs.Orders.{IsNew, sealed}
use Rattle.unit.specs.Tasks.{Came, Events, none, next, Day, ThroughoutDay, Carried, Worked}
use Rattle.unit.specs.declared.tasks.Task.{Task}
use Rattle.unit.specs.declared.units.Sealed.{Sealed}
use Rattle.unit.proofs.Lawful.{along, blocks_throughout, orders_throughout}

events_more : {E : Type 0} {ts us : List (Task E)} {t u : Task E} {es : List (Event E)} {e : Event E}
    → Events ts us es → Came t u e → Events (ts ++ t ∷ []) (us ++ u ∷ []) (es ++ e ∷ [])
events_more none c = next c none
events_more (next a r) c = next a (events_more r c)

-- one more task
pub carried_more : {F E : Type 0} {m : Ghosts F E} {u v w : Sealed F E m} {ts xs : List (Task E)} {t x : Task E} {e : Event E}
    → Carried u v ts xs → Ordered v w e → Came t x e → Carried u w (ts ++ t ∷ []) (xs ++ x ∷ [])
carried_more {ts = ts} {xs = xs} {t = t} {x = x} {e = e} c o came = record {
  same = record {
    field_is = o.same.field_is ∙ c.same.field_is;
    alpha_is = o.same.alpha_is ∙ c.same.alpha_is;
    length_is = o.same.length_is ∙ c.same.length_is;
  };
  day = e ∷ c.day;
  came = subst (Events (ts ++ t ∷ []) (xs ++ x ∷ [])) (sym (reverse-cons e c.day)) (events_more c.came came);
  lived = λ h l. o.lived (c.day ++ h) (c.lived h l);
}

-- the next task of a list, changed in place
pub carried_next : {F E : Type 0} {m : Ghosts F E} {u v w : Sealed F E m} {x : Task E} {e : Event E} (ts us : List (Task E)) (i : ℕ) (d : Task E)
    → i < length ts → i < length us → drop i us ≡ drop i ts → Carried u v (take i ts) (take i us) → Ordered v w e → Came (get_or us i d) x e
    → Carried u w (take (i + 1) ts) (take (i + 1) (set us i x)) × (drop (i + 1) (set us i x) ≡ drop (i + 1) ts)
carried_next {u = u} {w = w} {x = x} ts us i d in_ts in_us same c o came =
    let t = drop_more ts i d in_ts in
    let u' = drop_more us i d in_us in
    let first : get_or us i d ≡ get_or ts i d = cc in
    let rest : drop (i + 1) us ≡ drop (i + 1) ts = cc in
    (rw (take_more ts i d in_ts, ← first, take_more_set us i x in_us) (carried_more c o came), drop-set-lt (i + 1) us i x (omega arith) ∙ rest)

came_once : {E : Type 0} {t u : Task E} {d e : Event E} → Came t u d → Came t u e → d ≡ e
came_once {d = d} {e = e} x y =
    let z : event d.kind d.number d.offered d.left d.answer ≡ event e.kind e.number e.offered e.left e.answer = cc in z

events_once : {E : Type 0} {ts us : List (Task E)} {ds es : List (Event E)} → Events ts us ds → Events ts us es → ds ≡ es
events_once none none = refl
events_once (next a r) (next b s) = ap₂ (λ x xs. x ∷ xs) (came_once a b) (events_once r s)

-- tasks make one day
pub day_once : {E : Type 0} {ts us : List (Task E)} (g h : List (Event E)) → Day ts us g → Day ts us h → g ≡ h
day_once g h a b = sym (reverse-reverse g) ∙ ap reverse (events_once a b) ∙ reverse-reverse h

-- a unit that was sealed and then carried out the tasks has worked their day
pub worked : {F E : Type 0} {m : Ghosts F E} {f : F} {α : E} {n : ℕ} {before after : List (Task E)} {u v : Sealed F E m}
    → SealedWith f α n u → IsNew u.progress → Carried u v before after → Worked f α n before after v
worked {v = v} (allowed, field, alpha, length) new done = record {
  sealed = (allowed, done.same.field_is ∙ field, done.same.alpha_is ∙ alpha, done.same.length_is ∙ length);
  day = done.day;
  came = done.came;
  lived = subst (λ h. HasLived h v) (append-nil done.day) (done.lived [] (sealed new));
}

-- the law holds at every order of a day that was worked
module _ {F E : Type 0} {m : Ghosts F E} {f : F} {α : E} {n : ℕ} {before after : List (Task E)} {u : Sealed F E m}
    (w : Worked f α n before after u) where
  pub worked_blocks : ThroughoutDay (BlockLaw (m.ops f) α n) before after
  worked_blocks h d =
      subst (Throughout (BlockLaw (m.ops f) α n)) (day_once w.day h w.came d)
      (along (sym w.sealed.1) (sym w.sealed.2) (sym w.sealed.3) (λ f a k. Throughout (BlockLaw (m.ops f) a k) w.day) (blocks_throughout w.lived))

  pub worked_orders : ThroughoutDay OrderLaw before after
  worked_orders h d = subst (Throughout OrderLaw) (day_once w.day h w.came d) (orders_throughout w.lived)
