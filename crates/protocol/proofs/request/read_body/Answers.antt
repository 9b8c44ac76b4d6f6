use Rattle.std.proofs.Common.{◌≡◌, ◌∙◌, ◌+◌, ◌<◌, sym, arith, inl, inr, ℕ, List, length, take, subst}
use Rattle.std.proofs.lemmas.List.{length-take-le, take_all}
use Rattle.std.specs.Io.KnownBytes.{Consumes}
use Rattle.protocol.specs.Request.{TakesLength}
use Rattle.protocol.proofs.Requests.{few_numbers}
use Rattle.protocol.proofs.Frames.{after_cut, after_few, came_all, after_no_kind, after_wrong, framed, no_fields}
use Rattle.protocol.proofs.request.read_body.Goals as goal

pub returns-then-kind-last_kind : goal.returns-then-kind-last_kind
returns-then-kind-last_kind g c = record {
  reads = after_no_kind c.args.version (c.args.len + 1) c.args.kind (g.R.Read.remaining c.args.input.now) c.requires (omega arith) (inl (omega (arith, c.last_kind.ensures, c.if-kind-last_kind.true)));
}

pub returns-in_err-bytes : goal.returns-in_err-bytes
returns-in_err-bytes g c = record {
  reads = after_cut c.args.version c.args.len c.args.kind (g.R.Read.remaining c.args.input.now) (g.R.Read.remaining c.read_bytes.new.input) c.in_err-bytes.field-0.0 c.from_residual.result
      c.requires ((omega (arith, c.last_kind.ensures, c.if-kind-last_kind.false)), inl (sym c.has_bytes.ensures ∙ c.if-has_bytes.true)) c.from_residual.ensures.1 c.in_err-bytes.ensures.reads;
}

pub returns-then-has_bytes : goal.returns-then-has_bytes
returns-then-has_bytes g c =
    let bytes = c.in_ok-bytes.bytes in
    let reads = c.in_ok-bytes.ensures.reads in
    record {
      reads = framed c.args.version c.args.len c.args.kind bytes.items (g.R.Read.remaining c.args.input.now) (g.R.Read.remaining c.read_bytes.new.input) c.build_of_bytes.result reads.1 reads.0 (omega (arith, c.last_kind.ensures, c.if-kind-last_kind.false)) c.build_of_bytes.ensures;
    }

pub returns-in_default : goal.returns-in_default
returns-in_default g c = record {
  reads = after_no_kind c.args.version (c.args.len + 1) c.args.kind (g.R.Read.remaining c.args.input.now) c.requires (omega arith) (inr (sym c.has_bytes.ensures ∙ c.if-has_bytes.false, sym c.fields_of_kind.ensures ∙ c.in_default.is));
}

pub returns-then-len-count : goal.returns-then-len-count
returns-then-len-count g c = record {
  reads = after_wrong c.args.version (c.args.len + 1) c.args.kind c.in-Some.count (g.R.Read.remaining c.args.input.now) c.requires (omega arith) (omega (arith, c.last_kind.ensures, c.if-kind-last_kind.false)) (sym c.has_bytes.ensures ∙ c.if-has_bytes.false) (sym c.fields_of_kind.ensures ∙ c.in-Some.is)
      (omega (arith, c.if-len-count.true));
}

pub returns-then-branch-len : goal.returns-then-branch-len
returns-then-branch-len g c =
    let read = c.in_ok-read_front.ensures in
    let room = c.read_front.new.room in
    let count = c.in_ok-read_front.field-0 in
    let known = sym c.fields_of_kind.ensures ∙ c.in-Some.is in
    let right : TakesLength c.args.version c.args.kind (c.args.len + 1) = ((omega (arith, c.last_kind.ensures, c.if-kind-last_kind.false)), inr (c.in-Some.count, known, omega (arith, c.if-len-count.false))) in
    let old = g.R.Read.remaining c.args.input.now in
    let new = g.R.Read.remaining c.read_front.new.input in
    let long : length room ≡ c.args.len = read.size ∙ length-take-le c.args.len _ (omega (arith, few_numbers c.args.kind c.in-Some.count known, c.if-len-count.false)) in
    let short : length (take count room) < c.args.len = omega (arith, length-take-le count room read.count, c.if-branch-len.true) in
    record {
      reads = after_few c.args.version c.args.len c.args.kind old c.requires right
          (came_all old new (take count room) (λ (bytes : List ℕ). length bytes < c.args.len) read.came.takes (read.came.ends (omega (arith, short, long, read.size))) short);
    }

pub returns-in-Ok : goal.returns-in-Ok
returns-in-Ok g c =
    let read = c.in_ok-read_front.ensures in
    let fields = c.read_front.new.room in
    let count = c.in_ok-read_front.field-0 in
    let known = sym c.fields_of_kind.ensures ∙ c.in-Some.is in
    let long : length fields ≡ c.args.len = read.size ∙ length-take-le c.args.len _ (omega (arith, few_numbers c.args.kind c.in-Some.count known, c.if-len-count.false)) in
    let all : take count fields ≡ fields = take_all count fields (omega (arith, long, c.if-branch-len.false)) in
    let old = g.R.Read.remaining c.args.input.now in
    let new = g.R.Read.remaining c.read_front.new.input in
    record {
      reads = framed c.args.version c.args.len c.args.kind fields old new c.in-Ok.request long (subst (λ (bytes : List ℕ). Consumes old new bytes) all read.came.takes) (omega (arith, c.last_kind.ensures, c.if-kind-last_kind.false)) c.in-Ok.ensures;
    }

pub returns-in-Err : goal.returns-in-Err
returns-in-Err g c =
    let read = c.in_ok-read_front.ensures in
    let fields = c.read_front.new.room in
    let count = c.in_ok-read_front.field-0 in
    let known = sym c.fields_of_kind.ensures ∙ c.in-Some.is in
    let long : length fields ≡ c.args.len = read.size ∙ length-take-le c.args.len _ (omega (arith, few_numbers c.args.kind c.in-Some.count known, c.if-len-count.false)) in
    let all : take count fields ≡ fields = take_all count fields (omega (arith, long, c.if-branch-len.false)) in
    let old = g.R.Read.remaining c.args.input.now in
    let new = g.R.Read.remaining c.read_front.new.input in
    record {
      reads = no_fields c.args.version c.args.len c.args.kind fields old new c.in-Err.flaw c.requires long
          (record { count = c.in-Some.count; known = known; fits = omega (arith, long, c.if-len-count.false) })
          (subst (λ (bytes : List ℕ). Consumes old new bytes) all read.came.takes) c.in-Err.ensures;
    }
