use Rattle.std.proofs.Common.{refl}
use Rattle.pickcore.specs.Cycle.{cycle, retiring, front, dispatch}
use Rattle.cases.proofs.cases_hold.Goals as goal

-- one line for each row, so that an error's line names the row that fails
pub returns : goal.returns
unfolding cycle retiring front dispatch
returns c = (
  refl,  -- 0: the example's cycles
  (
    refl,  -- 1: the example's report
    (
      refl,  -- 2: divide 3, 1, 2
      (
        refl,  -- 3: a field that divide does not use
        (
          refl,  -- 4: no kind 12
          (
            refl,  -- 5: checked add that passes
            (
              refl,  -- 6: checked add that overflows
              (
                refl,  -- 7: load at 3
                (
                  refl,  -- 8: load at 4
                  (
                    refl,  -- 9: store at 0
                    (
                      refl,  -- 10: store at 4
                      (
                        refl,  -- 11: a base that wraps
                        (
                          refl,  -- 12: an add with bypasses
                          (
                            refl,  -- 13: an add without
                            (
                              refl,  -- 14: hold 4
                              (
                                refl,  -- 15: hold 5
                                (
                                  refl,  -- 16: hold 6
                                  (
                                    refl,  -- 17: a cut
                                    (
                                      refl,  -- 18: the example's image
                                      tt,
                                    ),
                                  ),
                                ),
                              ),
                            ),
                          ),
                        ),
                      ),
                    ),
                  ),
                ),
              ),
            ),
          ),
        ),
      ),
    ),
  ),
)
