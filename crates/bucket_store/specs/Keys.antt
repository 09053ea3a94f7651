-- The hash by which a bucket's rows are chained. It is inside: no contract of a public call speaks of it.
use Rattle.std.specs.Prelude.{ℕ, ◌+◌, ◌*◌, ◌/◌, ◌%◌, ◌^◌, fold}
use Rattle.med_prelude.specs.Texts.{Bytes}

abbrev pub wrapped : ℕ → ℕ
wrapped n = n % 2 ^ 64

-- each byte is added and spread over all bits
abbrev pub spread : Bytes → ℕ
spread bytes = fold (λ hash byte. wrapped (wrapped (hash + byte) * 11400714819323198485)) 7 bytes

-- once more, so that each bit that is kept depends on all of them
abbrev pub key_hash : Bytes → ℕ
key_hash bytes = wrapped (wrapped (spread bytes + spread bytes / 2 ^ 32) * 15485907386658061715) / 2 ^ 32
