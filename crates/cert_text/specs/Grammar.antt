-- The versions of the format, and its numbers.
--     first_version       the old version, which is read alone
--     second_version      the version that is read and written
--     IsVersion g         a version that a reader may have
--     IsCertNumber n      a number of a certificate
use Rattle.std.specs.Prelude.{◌≡◌, ℕ, ◌<◌, ◌≤◌, ◌==◌, true, false}
use Rattle.cert_text.specs.declared.grammar.Grammar.{Grammar}

-- 64 pairs and 4,096 ends at most, and no last jobs
abbrev pub first_version : Grammar
first_version = record { version = 49; most_pairs = 64; most_items = 4096; has_last = false }

-- 256 pairs, 16,384 ends and as many last jobs at most
abbrev pub second_version : Grammar
second_version = record { version = 50; most_pairs = 256; most_items = 16384; has_last = true }

-- One pair may stand in a line, the lines are no longer than those of the second version, and its digit is no LF.
pub record IsVersion (g : Grammar) : Type 0 where
  pub some_pairs : 0 < g.most_pairs
  pub few_pairs : g.most_pairs ≤ second_version.most_pairs
  pub few_items : g.most_items ≤ second_version.most_items
  pub no_lf : (g.version == 10) ≡ false

-- the greatest number of a certificate, 2^62 - 1
abbrev pub most_number : ℕ
most_number = 4611686018427387903

-- a number of a certificate
abbrev pub IsCertNumber : ℕ → Type 0
IsCertNumber n = n ≤ most_number
