-- Numbers by their digits in base B, lowest first.
-- Assumes nothing.
use Rattle.std.specs.Prelude.{ℕ, zero, suc, ◌+◌, ◌*◌, ◌/◌, ◌%◌}

-- digit i of c
unfoldable pub digit : ℕ → ℕ → ℕ → ℕ
digit B zero c = c % B
digit B (suc i) c = digit B i (c / B)

-- the number whose k digits are g 0, g 1, ..
unfoldable pub encode : ℕ → ℕ → (ℕ → ℕ) → ℕ
encode B zero g = zero
encode B (suc k) g = encode B k (λ i. g (suc i)) * B + g zero
