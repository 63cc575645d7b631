-- A transport can be opened with settings that have no cause.
use Rattle.std.proofs.Common.{ℕ, ◌*◌, ◌≤◌, ◌≡◌, max, Bool, true, false, cond, not, ◌||◌, nat_eq, nat_lt, Option, Some, None, refl, sym, ap, ◌∙◌, arith}
use Rattle.std.specs.Int.{is_power_of_two}
use Rattle.cal_transport.specs.declared.settings.Settings.{Settings}
use Rattle.cal_transport.specs.declared.settings.CreateCause.TheVariants.{BadLayout, SizeOutOfRange, SizeIsZero, InternalError}
use Rattle.cal_transport.specs.Settings.{clamped_settings, first_layout, payload, is_too_large, has_too_large_connection, create_cause}
use Rattle.cal_transport.specs.Opening.{CanOpen}
use Rattle.cal_transport.proofs.Opening.{can_make, can_clamped}

small_connection : (s : Settings) → create_cause s ≡ None → has_too_large_connection (clamped_settings s) ≡ false
small_connection s none =
    go (is_power_of_two s.alignment) (is_too_large (first_layout s)) (has_too_large_connection (clamped_settings s))
    refl none
  where
    go : (a b c : Bool) → has_too_large_connection (clamped_settings s) ≡ c →
        cond (not a) (Some BadLayout)
        (cond (b || c) (Some SizeOutOfRange)
        (cond (nat_eq (payload (first_layout s)) 0) (Some SizeIsZero)
        (cond (nat_lt 4096 s.alignment) (Some InternalError) None))) ≡ None →
        has_too_large_connection (clamped_settings s) ≡ false
    go a b false e q = e
    go true true true e q = cc
    go true false true e q = cc
    go false b true e q = cc

pub can_open : (s : Settings) → create_cause s ≡ None → CanOpen (clamped_settings s)
can_open s none = record {
  memory = can_clamped s (can_make s none);
  room = record {
    buffer = omega arith;
    borrow = omega arith;
    samples = omega arith;
    segments = omega arith;
    channels = omega arith;
  };
  connection = small_connection s none;
}
