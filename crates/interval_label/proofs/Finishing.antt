use Rattle.std.proofs.Common.{◌≡◌, ℕ, ◌+◌, ◌<◌, ◌≤◌, sym, refl, ap, ◌∙◌, subst, List, [], ◌∷◌, ◌++◌, length, Option, Some, None, MatchOption, slice_get, Contains, arith, ⊎_elim}
use Rattle.std.proofs.lemmas.Option.{same_Some, slice_get_within}
use Rattle.label_arena.specs.declared.place.Place.{Place}
use Rattle.label_arena.specs.declared.place.Label.{Label}
use Rattle.label_arena.specs.declared.place.LabelNo.{LabelNo}
use Rattle.label_arena.specs.declared.place.By.{By}
use Rattle.label_arena.specs.declared.place.By.TheVariants.{Source, Slide}
use Rattle.label_arena.specs.Lists.{Graph}
use Rattle.label_arena.specs.Plain.{slide, IsInside, Reaches, IsLeast}
use Rattle.label_arena.specs.Marks.{IsMark}
use Rattle.label_arena.specs.Traces.{IsTraced, IsFrom, IsSource, Leads, IsSlide}
use Rattle.interval_label.specs.Task.{Stop}
use Rattle.interval_label.specs.Answers.{IsFound, HasNone, AreApart, AreLeast, Explains}
use Rattle.interval_label.specs.Known.{Rows}
use Rattle.interval_label.specs.Search.{IsExplained, IsReached}
use Rattle.interval_label.specs.State.{IsLabel, IsTask, IsOffer, IsFinished, IsAt, NoneAt}
use Rattle.interval_label.specs.declared.search.Best.{Best}
use Rattle.interval_label.proofs.Lists.{get_last, last_cases}
use Rattle.interval_label.proofs.Reaching.{reaches_slid}
use Rattle.interval_label.proofs.Standing.{mark_target, mark_inside}
use Rattle.interval_label.proofs.Frontier.{IsMet, IsPending, met_reached}
use Rattle.interval_label.proofs.Putting.{contains_at, explained_kept, labels_put, least_put, apart_more}
use Rattle.interval_label.proofs.Starting.{at_index}

no_best : (r : Best) → None ≡ Some r → ⊥
no_best r e = cc

module _ (g : Graph) (sources targets : List Stop) (b : Place → ℕ) (known : Option Rows) (stops : List (List ℕ)) (task : IsTask g sources targets b known stops) (ls : List Label) (best : Option Best) (fin : IsFinished g sources targets b known ls best) where
  met : (v : Place) (c : ℕ) → IsMark g sources targets v → Reaches g sources v c → IsMet g b ls fin.queue v c
  met = met_reached g sources targets b known ls fin.queue fin.running.sound task.field.joined task.field.bounded.consistent task.knows

  inside : (v : Place) → IsMark g sources targets v → IsInside g v
  inside v m = mark_inside g sources targets task.field.joined task.sources_are task.targets_are m.0 v m.1

  -- each walk to a target is met by a best
  met_target : (t : Stop) (c : ℕ) → Contains targets t → Reaches g sources t.0 c → IsReached best (c + t.1)
  met_target t c h way = ⊎_elim
      (λ (e : IsExplained g ls t.0 c).
      let r : IsReached best (e.label.dist + slide g e.label.place t.0.coord + t.1) =
      fin.running.offers.least e.number h.0 _ (e.label, e.is, record { target = t; at = at_index targets t h; one_interval = e.one_interval; cost = refl }) in
      (r.0, r.1, omega (arith, r.2, e.cheap)))
      (λ (p : IsPending b fin.queue t.0 c).
      let r : IsReached best p.key = fin.beyond p.key p.candidate p.queued in
      (r.0, r.1, omega (arith, r.2, p.low, task.ends t h)))
      (met t.0 c (mark_target g sources targets t.0 t.1 h) way)

  pub none_joined : best ≡ None → HasNone g sources targets
  none_joined e t c h way = let r : IsReached best (c + t.1) = met_target t c h way in no_best r.0 (sym e ∙ r.1)

  -- what explains a least distance makes exactly this distance
  exactly : (ms : List Label) → ((k : ℕ) (x : Label) → slice_get ms k ≡ Some x → IsLabel g sources targets ms k x) → (v : Place) (c : ℕ) → IsInside g v → IsLeast g sources v c → IsExplained g ms v c → Explains g ms v c
  exactly ms labels v c here h e =
      let l : IsLabel g sources targets ms e.number e.label = labels e.number e.label e.is in
      let way : Reaches g sources v (e.label.dist + slide g e.label.place v.coord) = reaches_slid g sources e.label.place v e.label.dist l.inside here e.one_interval l.reached in
      record { number = e.number; label = e.label; is = e.is; one_interval = e.one_interval; sum = omega (arith, e.cheap, h.least _ way) }

  pub all_explained : best ≡ None → (v : Place) (c : ℕ) → IsMark g sources targets v → IsLeast g sources v c → Explains g ls v c
  all_explained e v c mark h = exactly ls fin.running.sound.state.labels v c (inside v mark) h (⊎_elim
      (λ (x : IsExplained g ls v c). x)
      (λ (p : IsPending b fin.queue v c). let r : IsReached best p.key = fin.beyond p.key p.candidate p.queued in absurd (no_best r.0 (sym e ∙ r.1)))
      (met v c mark h.reached))

  least_of : (ms : List Label) → ((k : ℕ) (x : Label) → slice_get ms k ≡ Some x → IsLabel g sources targets ms k x) → ((k : ℕ) (x : Label) → slice_get ms k ≡ Some x → (c : ℕ) → Reaches g sources x.place c → x.dist ≤ c) → AreApart ms → AreLeast g sources targets ms
  least_of ms labels least apart = record {
    marks = λ k x h. (labels k x h).mark;
    apart = apart;
    least = λ k x h. record { reached = (labels k x h).reached; least = least k x h };
    sources_are = λ k j x h e. (labels k x h).source j e;
    traced = λ k x h. (labels k x h).traced;
  }

  pub labels_least : AreLeast g sources targets ls
  labels_least = least_of ls fin.running.sound.state.labels fin.running.sound.state.least fin.running.apart

  module _ (r : Best) (is : best ≡ Some r) where
    same_cost : (s : Best) → best ≡ Some s → s.cost ≡ r.cost
    same_cost s e = ap (λ (z : Best). z.cost) (same_Some s r (sym e ∙ is))

    pub met_below : (v : Place) (c : ℕ) → IsMark g sources targets v → IsLeast g sources v c → c + b v < r.cost → IsExplained g ls v c
    met_below v c mark h low = ⊎_elim
        (λ (x : IsExplained g ls v c). x)
        (λ (p : IsPending b fin.queue v c).
        let s : IsReached best p.key = fin.beyond p.key p.candidate p.queued in
        absurd (omega (arith, s.2, p.low, same_cost s.0 s.1, low)))
        (met v c mark h.reached)

    pub explained_below : (v : Place) (c : ℕ) → IsMark g sources targets v → IsLeast g sources v c → c + b v < r.cost → Explains g ls v c
    explained_below v c mark h low = exactly ls fin.running.sound.state.labels v c (inside v mark) h (met_below v c mark h low)

    pub least_cost : (t : Stop) (c : ℕ) → Contains targets t → Reaches g sources t.0 c → r.cost ≤ c + t.1
    least_cost t c h way = let s : IsReached best (c + t.1) = met_target t c h way in omega (arith, s.2, same_cost s.0 s.1)

    pub offer : IsOffer g targets ls r.number r.target r.cost
    offer = fin.running.offers.from r is

    pub labels_below : (k : ℕ) (x : Label) → slice_get ls k ≡ Some x → x.dist + b x.place ≤ r.cost
    labels_below k x h = (fin.running.ordered k x h).1 r is

    -- the target, and the label that its best walk goes over last
    module _ (t : Stop) (at : slice_get targets r.target ≡ Some t) (x : Label) (xis : slice_get ls r.number ≡ Some x) where
      has : Contains targets t
      has = contains_at targets r.target t at

      pub one_interval : x.place.interval ≡ t.0.interval
      one_interval =
          let lx : offer.0 ≡ x = same_Some offer.0 x (sym offer.1 ∙ xis) in
          let tt1 : offer.2.target ≡ t = same_Some offer.2.target t (sym offer.2.at ∙ at) in
          sym (ap (λ (z : Label). z.place.interval) lx) ∙ offer.2.one_interval ∙ ap (λ (z : Stop). z.0.interval) tt1

      pub cost_is : r.cost ≡ x.dist + slide g x.place t.0.coord + t.1
      cost_is =
          let lx : offer.0 ≡ x = same_Some offer.0 x (sym offer.1 ∙ xis) in
          let tt1 : offer.2.target ≡ t = same_Some offer.2.target t (sym offer.2.at ∙ at) in
          offer.2.cost ∙ ap (λ (z : Label). z.dist + slide g z.place offer.2.target.0.coord + offer.2.target.1) lx ∙ ap (λ (z : Stop). x.dist + slide g x.place z.0.coord + z.1) tt1

      target_in : IsInside g t.0
      target_in = (task.targets_are t has).0

      slid_there : Reaches g sources t.0 (x.dist + slide g x.place t.0.coord)
      slid_there = reaches_slid g sources x.place t.0 x.dist (fin.running.sound.state.labels r.number x xis).inside target_in one_interval (fin.running.sound.state.labels r.number x xis).reached

      -- a label stands there
      pub found_old : (n : LabelNo) → IsAt ls t.0 n → IsFound g sources targets ls r.cost r.target n
      found_old n h =
          let here : Reaches g sources t.0 h.label.dist = subst (λ (v : Place). Reaches g sources v h.label.dist) h.place (fin.running.sound.state.labels n.0 h.label h.is).reached in
          let low : h.label.dist ≤ x.dist + slide g x.place t.0.coord = fin.running.sound.state.least n.0 h.label h.is _ (subst (λ (v : Place). Reaches g sources v (x.dist + slide g x.place t.0.coord)) (sym h.place) slid_there) in
          record {
            stop = t;
            at = at;
            end = h.label;
            is = h.is;
            here = h.place;
            sum = omega (arith, cost_is, low, least_cost t h.label.dist has here);
            least = least_cost;
          }

      -- none stands there, and one is put
      module _ (none : NoneAt ls t.0) (y : Label) (y_place : y.place ≡ t.0) (y_dist : y.dist ≡ x.dist + slide g x.place t.0.coord) (y_by : y.by ≡ Slide) (n : LabelNo) (n_is : n.0 ≡ r.number) (y_origin : y.origin ≡ Some n) where
        way_y : Reaches g sources y.place y.dist
        way_y = subst (λ (v : Place). Reaches g sources v y.dist) (sym y_place) (subst (λ (e : ℕ). Reaches g sources t.0 e) (sym y_dist) slid_there)

        least_y : (c : ℕ) → Reaches g sources y.place c → y.dist ≤ c
        least_y c way = omega (arith, y_dist, cost_is, least_cost t c has (subst (λ (v : Place). Reaches g sources v c) y_place way))

        label_y : IsLabel g sources targets ls (length ls) y
        label_y = record {
          inside = subst (λ (v : Place). IsInside g v) (sym y_place) target_in;
          mark = subst (λ (v : Place). IsMark g sources targets v) (sym y_place) (mark_target g sources targets t.0 t.1 has);
          traced = traced_y;
          source = λ k e. absurd (no_source k (sym e ∙ y_by));
          reached = way_y;
        }
          where
            no_source : (k : ℕ) → Source k ≡ Slide → ⊥
            no_source k e = cc

            leads_y : Leads g y.by x.place y.place (slide g x.place t.0.coord)
            leads_y = subst (λ (w : By). Leads g w x.place y.place (slide g x.place t.0.coord)) (sym y_by)
                (subst (λ (v : Place). IsSlide g x.place v (slide g x.place t.0.coord)) (sym y_place)
                (record { from = (fin.running.sound.state.labels r.number x xis).inside; to = target_in; one_interval = one_interval; cost = refl }))

            from_y : IsFrom g ls (length ls) y n
            from_y = record {
              earlier = (let w : r.number < length ls = slice_get_within ls r.number x xis in omega (arith, w, n_is));
              label = x;
              at = ap (slice_get ls) n_is ∙ xis;
              cost = slide g x.place t.0.coord;
              leads = leads_y;
              dist = y_dist;
            }

            traced_y : IsTraced g ls (length ls) y
            traced_y = subst (λ (o : Option LabelNo). MatchOption o (IsSource y.by) (IsFrom g ls (length ls) y)) (sym y_origin) from_y

        labels_now : (k : ℕ) (z : Label) → slice_get (ls ++ y ∷ []) k ≡ Some z → IsLabel g sources targets (ls ++ y ∷ []) k z
        labels_now = labels_put g sources targets ls y fin.running.sound.state.labels label_y

        pub labels_new : AreLeast g sources targets (ls ++ y ∷ [])
        labels_new = least_of (ls ++ y ∷ []) labels_now
            (least_put g sources ls y fin.running.sound.state.least least_y)
            (apart_more ls y (λ k w h e. none k w h (e ∙ y_place)) fin.running.apart)

        pub found_new : (k : LabelNo) → k.0 ≡ length ls → IsFound g sources targets (ls ++ y ∷ []) r.cost r.target k
        found_new k ke = record {
          stop = t;
          at = at;
          end = y;
          is = ap (slice_get (ls ++ y ∷ [])) ke ∙ get_last ls y;
          here = y_place;
          sum = omega (arith, cost_is, y_dist);
          least = least_cost;
        }

        pub explained_new : (v : Place) (c : ℕ) → IsMark g sources targets v → IsLeast g sources v c → c + b v < r.cost → Explains g (ls ++ y ∷ []) v c
        explained_new v c mark h low = exactly (ls ++ y ∷ []) labels_now v c (inside v mark) h (explained_kept g ls y v c (met_below v c mark h low))

        pub below_new : (k : ℕ) (z : Label) → slice_get (ls ++ y ∷ []) k ≡ Some z → z.dist + b z.place ≤ r.cost
        below_new k z h = ⊎_elim
            (λ (o : slice_get ls k ≡ Some z). labels_below k z o)
            (λ (o : (k ≡ length ls) × (y ≡ z)).
            let same : y.dist + b y.place ≡ z.dist + b z.place = ap (λ (l : Label). l.dist + b l.place) o.1 in
            let bt : b y.place ≡ b t.0 = ap b y_place in
            omega (arith, same, bt, cost_is, y_dist, task.ends t has))
            (last_cases ls y z k h)
