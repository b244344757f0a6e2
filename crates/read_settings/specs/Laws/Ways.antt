-- Each way through read settings, beside its definition.
-- Assumes nothing.
use Rattle.std.specs.Prelude.{ℕ, ◌≡◌, List, Float}
use Rattle.std.proofs.Common.{eq-eqb}
use Rattle.answers.specs.declared.Refusal.{Refusal}
use Rattle.answers.specs.Told.{refusal_number, refused, no_settings}
use Rattle.settings_spec.specs.Settings.{store_refusal}
use Rattle.sound_settings.specs.Laws.Checked.{number_of, refused_test}
use Rattle.read_settings.specs.ReadSettings.{shown_if, read_settings}

module _ (v : ℕ) (b : List ℕ) where
  pub read_refused : (show : Float) (r : Refusal) → refused (refusal_number r) 0 ≡ refused (store_refusal v b) 0 → no_settings (refusal_number r) ≡ read_settings v b show
  unfolding read_settings
  read_refused show r h = rw (refused_test r (store_refusal v b) h, number_of (refusal_number r) (store_refusal v b) h)

  pub read_accepted : (show : Float) → store_refusal v b ≡ 0 → shown_if v b show ≡ read_settings v b show
  unfolding read_settings
  read_accepted show h = rw (eq-eqb (store_refusal v b) 0 h)
