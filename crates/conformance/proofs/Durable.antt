-- A life that has just begun is durable.
use Rattle.std.specs.Prelude.{◌≡◌, []}
use Rattle.std.proofs.Common.{ap}
use Rattle.disk.specs.Disk.{Life}
use Rattle.disk.specs.History.{begun}
use Rattle.paged.specs.Recovery.{IsDurable}

pub begun_durable : (life : Life) → life ≡ begun life.present.readable [] → IsDurable life.present
begun_durable life e = record {
  since = ap (λ (l : Life). l.present.since) e;
  base = ap (λ (l : Life). l.present.base) e;
}
