-- What a statement that was read asks.
use Rattle.board_prelude.proofs.{nat_tests, IsMoment, Event, Time, Stimulus, stimulus_form}
use Rattle.std.proofs.Common.{◌≡◌, ◌≢◌, ℕ, ◌<◌, ◌≤◌, true, Option, Some, None, List, subst, arith, MatchOption}
use Rattle.script_spec.specs.Grammar.{HasForm}
use Rattle.script_spec.specs.Items.{ask}
use Rattle.script_spec.proofs.LineReading.{one_item}
use Rattle.scripts.specs.declared.item.Asked.{Asked}
use Rattle.scripts.specs.declared.item.Asked.TheVariants.{Event as AnEvent, Moment as AMoment, Stimulus as Applies}
use Rattle.scripts.specs.declared.item.Item.{Item as Read}
use Rattle.scripts.specs.declared.item.Item.TheVariants.{Statement as Asks}
use Rattle.scripts.specs.declared.moment.MomentFields.{MomentFields}
use Rattle.scripts.specs.Items.{asked_said, moment_said, line_said}
use Rattle.logs.specs.Asked.{IsPlacedEvent, IsEventOf, IsAsked}

-- ---- what an item asks

pub ask_is : (actor other : ℕ) (event asked : Event) → ask actor event ≡ ask other asked
    → (event ≡ asked) × (actor ≡ other)
ask_is actor other event asked e = grind (arith, nat_tests)

-- ---- events and moments

pub placed_is : (event other : Event) → IsEventOf (AnEvent event) other → IsPlacedEvent event
placed_is event other is = rw (ask_is 0 0 event other (is.said 0)).0 is.fits

pub moment_is : (m : MomentFields) (event : Event) → IsEventOf (AMoment m) event → IsMoment (moment_said m)
moment_is m event is = (placed_is (Time (moment_said m)) event (record { said = is.said; fits = is.fits })).named

-- ---- stimuli

-- a level above 1 asks for no event
pub no_level : (one : Stimulus) (number level : ℕ) (event : Event) → 2 ≤ level
    → ¬ IsEventOf (Applies one number level) event
no_level one number level event high is = let said = is.said 0 in grind (arith, nat_tests)

pub no_number : (one : Stimulus) (number level : ℕ) (event : Event) → level < 2
    → (stimulus_form one).has_level ≡ true → 0x100 ≤ number → ¬ IsEventOf (Applies one number level) event
no_number one number level event few known high is = let said = is.said 0 in grind (arith, nat_tests, is.fits)

-- ---- whole statements

-- a line that says another item asks nothing
pub not_asked : (version seq : ℕ) (text : List ℕ) (item : Read) (event : Event) → HasForm version text (line_said item)
    → ((actor : ℕ) (asked : Asked) → item ≢ Asks actor asked) → ¬ IsAsked version text seq event
not_asked version seq text item event has other is =
    let same = one_item version text (line_said item) (ask seq event) has is.has in grind (arith, nat_tests, other)

pub asked_exact : (version actor : ℕ) (text : List ℕ) (asked : Asked) (found : Option (ℕ × Event)) →
    HasForm version text (asked_said actor asked) → MatchOption found ((event : Event) → ¬ IsEventOf asked event)
    (λ p. (p.0 ≡ actor) × IsEventOf asked p.1) →
    MatchOption found ((seq : ℕ) (event : Event) → ¬ IsAsked version text seq event) (λ p. IsAsked version text p.0 p.1)
asked_exact version actor text asked None has exact = λ seq event is.
    let same = one_item version text (asked_said actor asked) (ask seq event) has is.has in
    exact event (record { said = λ other. grind (arith, nat_tests, same); fits = is.fits })
asked_exact version actor text asked (Some p) has exact = record {
  has = rw exact.0 (subst (HasForm version text) (exact.1.said actor) has);
  fits = exact.1.fits;
}
