-- Settings with no cause have what a transport needs, and so have they as they count.
use Rattle.std.proofs.Common.{ℕ, zero, suc, ◌*◌, ◌≤◌, ◌≡◌, Bool, true, false, cond, not, ◌||◌, nat_eq, nat_lt, Some, None, refl, sym, ap, ◌∙◌, arith, zero-add}
use Rattle.std.specs.Int.{is_power_of_two}
use Rattle.std.proofs.Math.Nat.{mod_self, zero-mod, zero-mul, mul-zero, sub-zero}
use Rattle.std.proofs.lemmas.Bool.{true≢false}
use Rattle.std.proofs.lemmas.Bool.Decides.{nat_tests}
use Rattle.cal_alloc.specs.Growth.{padded_size}
use Rattle.cal_transport.specs.declared.settings.Settings.{Settings}
use Rattle.cal_transport.specs.declared.settings.CreateCause.TheVariants.{BadLayout, SizeOutOfRange, SizeIsZero, InternalError}
use Rattle.cal_transport.specs.Settings.{clamped_settings, first_layout, payload, is_too_large, has_too_large_connection, create_cause, CanMake}

-- a number that divides is above 0 where the power of two is
power_above : (n : ℕ) → is_power_of_two n ≡ true → 1 ≤ n
unfolding lib.Count.ones
power_above zero e = absurd (true≢false (sym e))
power_above (suc n) e = omega arith

-- nothing, padded, is nothing
nothing_padded : (alignment : ℕ) → padded_size 0 alignment ≡ 0
nothing_padded alignment = rw (zero-add, zero-mod alignment, sub-zero alignment, mod_self alignment) refl

size_above : (size alignment count : ℕ) → nat_eq (padded_size size alignment * count) 0 ≡ false → 1 ≤ size
size_above zero alignment count e =
    absurd (true≢false (sym (ap (λ n. nat_eq (n * count) 0) (nothing_padded alignment) ∙ ap
    (λ n. nat_eq n 0) (zero-mul count)) ∙ e))
size_above (suc size) alignment count e = omega arith

count_above : (size count : ℕ) → nat_eq (size * count) 0 ≡ false → 1 ≤ count
count_above size zero e = absurd (true≢false (sym (ap (λ n. nat_eq n 0) (mul-zero size)) ∙ e))
count_above size (suc count) e = omega arith

-- settings with no cause have what a transport needs
pub can_make : (s : Settings) → create_cause s ≡ None → CanMake s
can_make s none = go (is_power_of_two s.alignment) (is_too_large (first_layout s))
    (has_too_large_connection (clamped_settings s)) (nat_eq (payload (first_layout s)) 0) (nat_lt 4096 s.alignment)
    refl refl refl refl refl none
  where
    go : (a b c d e : Bool) → is_power_of_two s.alignment ≡ a → is_too_large (first_layout s) ≡ b →
        has_too_large_connection (clamped_settings s) ≡ c →
        nat_eq (payload (first_layout s)) 0 ≡ d → nat_lt 4096 s.alignment ≡ e →
        cond (not a) (Some BadLayout)
        (cond (b || c) (Some SizeOutOfRange) (cond d (Some SizeIsZero) (cond e (Some InternalError) None))) ≡ None →
        CanMake s
    go true false false false false a b c d e q =
        let one = power_above s.alignment a in
        record {
          alignment = a;
          aligned = one;
          supported = grind (arith, nat_tests);
          size = size_above s.size s.alignment s.count d;
          count = count_above (padded_size s.size s.alignment) s.count d;
          few = grind (arith, nat_tests);
          payload = grind (arith, nat_tests);
          completions = grind (arith, nat_tests);
        }
    go true false false false true a b c d e q = cc
    go true false false true e a b c d f q = cc
    go true false true d e a b c f g q = cc
    go true true c d e a b f g h q = cc
    go false b c d e a f g h i q = cc

-- ---- the pool

-- settings as they count are as easy to make
pub can_clamped : (s : Settings) → CanMake s → CanMake (clamped_settings s)
can_clamped s can = record {
  alignment = can.alignment;
  aligned = can.aligned;
  supported = can.supported;
  size = can.size;
  count = can.count;
  few = can.few;
  payload = can.payload;
  completions = (let c = can.completions in omega arith);
}
