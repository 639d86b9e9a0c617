-- Long proofs: an induction, and the claim of a checker that calls the built-in one.
use Rattle.std.proofs.Common.{◌≡◌, ℕ, List, [], ◌∷◌, refl}
use Rattle.mw_model.specs.Laws.BuiltInText.{joined}
use Rattle.mw_model.specs.Events.Refusal.{need, must, unless}
use Rattle.mw_model.specs.Reports.Report.{report, Done, SomeRefused}
use Rattle.mw_examples.proofs.Reports.{says}

abbrev induction_book : List ℕ
induction_book = joined ("(verify i (pequal* x x) (induction (pequal* x x) ((axiom (pequal* x x))" ∷ "(CONTRACTION #1=(PEQUAL* #2=(ORDP . #3=(#4=(QUOTE 0))) . #5=(#6=(QUOTE T))) ((CUT (POR* #1# . #7=(#1#)) ((CUT (POR* #8=(PEQUAL* #9=(NATP . #3#) . #10=(#9#)) . #7#) ((EXPANSION (POR* #1# . #11=(#8#)) ((INSTANTIATION #8# #12=((AXIOM (PEQUAL* X . #13=(X)))) ((X . #9#))))) (PROPOSITIONAL-SCHEMA (POR* (PNOT* . #7#) . #7#)))) (CONTRACTION #14=(POR* (PNOT* . #11#) . #7#) ((CUT (POR* #14# . #15=(#14#)) ((CUT (POR* #16=(PEQUAL* #9# . #5#) . #15#) ((EXPANSION (POR* #14# . #17=(#16#)) ((BASE-EVAL . #17#))) (PROPOSITIONAL-SCHEMA (POR* (PNOT* . #15#) . #15#)))) (CONTRACTION #18=(POR* (PNOT* . #17#) . #15#)" ∷ "((CUT (POR* #18# . #19=(#18#)) ((CUT (POR* #20=(PEQUAL* #9# . #21=(#2#)) . #19#) ((EXPANSION (POR* #18# . #22=(#20#)) ((CONTRACTION #20# ((CUT (POR* #20# . #22#) ((CUT (POR* #23=(PEQUAL* #2# . #21#) . #22#) ((EXPANSION (POR* #20# . #24=(#23#)) . #25=(((INSTANTIATION #23# #12# ((X . #2#)))))) (PROPOSITIONAL-SCHEMA (POR* #26=(PNOT* . #22#) . #22#)))) (CONTRACTION #27=(POR* #28=(PNOT* . #24#) . #22#) ((CUT (POR* #27# . #29=(#27#)) ((CUT (POR* #23# . #29#) ((EXPANSION (POR* #27# . #24#) . #25#) (PROPOSITIONAL-SCHEMA (POR* (PNOT* . #29#) . #29#)))) (CONTRACTION #30=(POR* #28# . #29#) ((CUT (POR*" ∷ "#30# . #31=(#30#)) ((CUT (POR* #32=(PEQUAL* #2# . #10#) . #31#) ((EXPANSION (POR* #30# . #33=(#32#)) ((CONTRACTION #32# ((CUT (POR* #32# . #33#) ((CUT (POR* #34=(PEQUAL* #35=(IF #36=(CONSP . #3#) #37=(IF (CONSP . #38=((CAR . #3#))) (IF (ORDP . #39=(#40=(CAR . #38#))) (IF (IF (EQUAL #40# . #3#) . #41=(#42=(QUOTE NIL) . #5#)) (IF (NATP . #43=((CDR . #38#))) (IF (< #4# . #43#) (IF (ORDP . #44=((CDR . #3#))) (IF (CONSP . #44#) (ORD< (CAR (CAR . #44#)) . #39#) . #5#) . #45=(#42#)) . #45#) . #45#) . #45#) . #45#) . #45#) . #10#) . #46=(#35#)) . #33#) ((EXPANSION (POR* #32# . #47=(#34#))" ∷ "((INSTANTIATION #34# #12# ((X . #35#))))) (PROPOSITIONAL-SCHEMA (POR* #48=(PNOT* . #33#) . #33#)))) (CONTRACTION #49=(POR* (PNOT* . #47#) . #33#) ((CUT (POR* #49# . #50=(#49#)) ((CUT (POR* #51=(PEQUAL* #35# . #10#) . #50#) ((EXPANSION (POR* #49# . #52=(#51#)) ((CONTRACTION #51# ((CUT (POR* #51# . #52#) ((CUT (POR* #53=(PEQUAL* #36# . #45#) . #52#) ((EXPANSION (POR* #51# . #54=(#53#)) ((BASE-EVAL . #54#))) (PROPOSITIONAL-SCHEMA (POR* #55=(PNOT* . #52#) . #52#)))) (INSTANTIATION (POR* (PNOT* . #54#) . #52#) ((AXIOM (POR* (PNOT* (PEQUAL* X . #45#)) (PEQUAL* (IF X Y . #56=(Z)) . #56#)))) ((X ." ∷ "#36#) (Y . #37#) (Z . #9#))))))))) (PROPOSITIONAL-SCHEMA (POR* (PNOT* . #50#) . #50#)))) (CONTRACTION #57=(POR* #55# . #50#) ((CUT (POR* #57# . #58=(#57#)) ((CUT (POR* #59=(PEQUAL* #35# . #21#) . #58#) ((EXPANSION (POR* #57# . #60=(#59#)) ((CONTRACTION #59# ((CUT (POR* #59# . #60#) ((CUT (POR* #23# . #60#) ((EXPANSION (POR* #59# . #24#) . #25#) (PROPOSITIONAL-SCHEMA (POR* #61=(PNOT* . #60#) . #60#)))) (CONTRACTION #62=(POR* #28# . #60#) ((CUT (POR* #62# . #63=(#62#)) ((CUT (POR* #23# . #63#) ((EXPANSION (POR* #62# . #24#) . #25#) (PROPOSITIONAL-SCHEMA (POR* (PNOT* . #63#) . #63#))))" ∷ "(CONTRACTION #64=(POR* #28# . #63#) ((CUT (POR* #64# . #65=(#64#)) ((CUT (POR* #66=(PEQUAL* #2# . #46#) . #65#) ((EXPANSION (POR* #64# . #67=(#66#)) ((INSTANTIATION #66# ((AXIOM (PEQUAL* (ORDP . #13#) (IF (CONSP . #13#) (IF (CONSP . #68=((CAR . #13#))) (IF (ORDP . #69=(#70=(CAR . #68#))) (IF (IF (EQUAL #70# . #3#) . #41#) (IF (NATP . #71=((CDR . #68#))) (IF (< #4# . #71#) (IF (ORDP . #72=((CDR . #13#))) (IF (CONSP . #72#) (ORD< (CAR (CAR . #72#)) . #69#) . #5#) . #45#) . #45#) . #45#) . #45#) . #45#) . #45#) (NATP . #13#))))) ((X . #4#))))) (PROPOSITIONAL-SCHEMA (POR* (PNOT* . #65#) . #65#))))" ∷ "(INSTANTIATION (POR* (PNOT* . #67#) . #65#) #73=((AXIOM (POR* (PNOT* (PEQUAL* X1 Y1)) (POR* (PNOT* (PEQUAL* X2 . #74=(Y2))) (POR* (PNOT* (PEQUAL* X1 X2)) (PEQUAL* Y1 . #74#)))))) (#75=(X1 . #2#) (Y1 . #35#) . #76=((X2 . #2#) (Y2 . #2#)))))))))))))))))) (PROPOSITIONAL-SCHEMA (POR* (PNOT* . #58#) . #58#)))) (INSTANTIATION (POR* #61# . #58#) #73# ((X1 . #35#) #77=(Y1 . #2#) (X2 . #35#) (Y2 . #9#))))))))))))))))) (PROPOSITIONAL-SCHEMA (POR* (PNOT* . #31#) . #31#)))) (INSTANTIATION (POR* #48# . #31#) #73# (#75# (Y1 . #9#) . #76#)))))))))))))))) (PROPOSITIONAL-SCHEMA (POR* (PNOT* . #19#) . #19#))))" ∷ "(INSTANTIATION (POR* #26# . #19#) #73# ((X1 . #9#) #77# (X2 . #9#) (Y2 . #6#)))))))))))))))) ('0 () ())))" ∷ [])

induction_with_its_ordinal_premise_is_accepted : report induction_book 10000000 ≡ says ("1 VERIFY I accepted" ∷ "events 1 accepted 1 refused 0 level 1" ∷ []) Done
unfolding need must unless
induction_with_its_ordinal_premise_is_accepted = refl

abbrev wrap_book : List ℕ
wrap_book = joined ("(define wrap (x axioms thms atbl) (logic.proofp x axioms thms atbl) nil ())" ∷ "(verify claim (por* (pequal* (wrap x axioms thms atbl) 'nil) (pnot* (pequal* (logic.provablep (logic.conclusion x) axioms thms atbl) 'nil)))" ∷ "(CONTRACTION #1=(POR* #2=(PEQUAL* #3=(WRAP . #4=(X . #5=(AXIOMS THMS ATBL))) . #6=(#7=(QUOTE NIL))) . #8=(#9=(PNOT* (PEQUAL* #10=(LOGIC.PROVABLEP . #11=(#12=(LOGIC.CONCLUSION . #13=(X)) . #5#)) . #6#)))) ((CUT (POR* #1# . #14=(#1#)) ((CONTRACTION #15=(POR* #2# . #14#) ((CUT (POR* #15# . #16=(#15#)) ((CUT (POR* #9# . #16#) ((ASSOCIATIVITY (POR* #15# . #8#) ((CUT (POR* #2# . #17=(#18=(POR* #1# . #8#))) ((ASSOCIATIVITY (POR* #18# . #19=(#2#)) ((CUT #20=(POR* #1# . #21=(#22=(POR* #9# . #19#))) ((CUT (POR* #22# . #14#) ((EXPANSION #20# ((CUT #22# ((CUT (POR* #23=(PEQUAL* #24=(#25=(LAMBDA (PROOF ." ∷ "#4#) #26=(IF (LOGIC.PROOFP PROOF . #5#) (EQUAL (LOGIC.CONCLUSION PROOF) . #13#) . #6#)) (LOGIC.PROVABLE-WITNESS . #11#) . #11#) . #6#) . #8#) ((CONTRACTION #27=(POR* #9# . #28=(#23#)) ((CUT (POR* #27# . #29=(#27#)) ((CUT (POR* #30=(PEQUAL* #24# . #31=(#10#)) . #29#) ((EXPANSION (POR* #27# . #32=(#30#)) ((CONTRACTION #30# ((CUT (POR* #30# . #32#) ((CUT (POR* #33=(PEQUAL* #10# . #31#) . #32#) ((EXPANSION (POR* #30# . #34=(#33#)) . #35=(((INSTANTIATION #33# #36=((AXIOM (PEQUAL* X . #13#))) ((X . #10#)))))) (PROPOSITIONAL-SCHEMA (POR* #37=(PNOT* . #32#) . #32#)))) (CONTRACTION #38=(POR* #39=(PNOT*" ∷ ". #34#) . #32#) ((CUT (POR* #38# . #40=(#38#)) ((CUT (POR* #33# . #40#) ((EXPANSION (POR* #38# . #34#) . #35#) (PROPOSITIONAL-SCHEMA (POR* (PNOT* . #40#) . #40#)))) (CONTRACTION #41=(POR* #39# . #40#) ((CUT (POR* #41# . #42=(#41#)) ((CUT (POR* #43=(PEQUAL* #10# . #44=(#24#)) . #42#) ((EXPANSION (POR* #41# . #45=(#43#)) ((INSTANTIATION #43# ((AXIOM (PEQUAL* (LOGIC.PROVABLEP . #4#) #46=(#25# (LOGIC.PROVABLE-WITNESS . #4#) . #4#)))) . #47=(#48=(#49=(X . #12#)))))) (PROPOSITIONAL-SCHEMA (POR* (PNOT* . #42#) . #42#)))) (INSTANTIATION (POR* #50=(PNOT* . #45#) . #42#) #51=((AXIOM (POR* (PNOT*" ∷ "(PEQUAL* X1 Y1)) (POR* (PNOT* (PEQUAL* X2 . #52=(Y2))) (POR* (PNOT* (PEQUAL* X1 X2)) (PEQUAL* Y1 . #52#)))))) (#53=(X1 . #10#) #54=(Y1 . #24#) #55=(X2 . #10#) (Y2 . #10#))))))))))))))))) . #56=((PROPOSITIONAL-SCHEMA (POR* (PNOT* . #29#) . #29#))))) (CONTRACTION #57=(POR* #37# . #29#) ((CUT (POR* #57# . #58=(#57#)) ((CONTRACTION #59=(POR* #37# . #58#) ((CUT (POR* #59# . #60=(#59#)) ((CONTRACTION #61=(POR* #23# . #60#) ((CUT (POR* #61# . #62=(#61#)) ((CUT (POR* #9# . #62#) ((ASSOCIATIVITY (POR* #61# . #8#) ((CUT (POR* #23# . #63=(#64=(POR* #59# . #8#))) ((ASSOCIATIVITY (POR* #64# . #28#) ((CUT" ∷ "#65=(POR* #59# . #29#) ((CUT (POR* #27# . #60#) ((ASSOCIATIVITY #65# ((CUT (POR* #37# . #66=(#67=(POR* #57# . #29#))) ((ASSOCIATIVITY (POR* #67# . #68=(#37#)) ((CUT #69=(POR* #57# . #70=(#71=(POR* #27# . #68#))) ((CUT (POR* #71# . #58#) ((EXPANSION #69# ((CONTRACTION #71# ((CUT (POR* #71# . #70#) ((CUT (POR* #72=(PEQUAL* #24# . #44#) . #70#) ((EXPANSION (POR* #71# . #73=(#72#)) ((INSTANTIATION #72# #36# ((X . #24#))))) . #74=((PROPOSITIONAL-SCHEMA (POR* (PNOT* . #70#) . #70#))))) (CUT (POR* #75=(PNOT* . #73#) . #70#) ((ASSOCIATIVITY (POR* #71# . #76=(#75#)) ((ASSOCIATIVITY (POR* #27# ." ∷ "#77=(#78=(POR* #37# . #76#))) ((CUT (POR* #9# . #79=(#80=(POR* #23# . #77#))) ((ASSOCIATIVITY (POR* #80# . #8#) ((CONTRACTION #81=(POR* #23# #82=(POR* #78# . #8#)) ((CUT (POR* #81# . #83=(#81#)) ((CUT (POR* #33# . #83#) ((EXPANSION (POR* #81# . #34#) . #35#) . #84=((PROPOSITIONAL-SCHEMA (POR* (PNOT* . #83#) . #83#))))) (CUT (POR* #39# . #83#) ((ASSOCIATIVITY (POR* #81# . #85=(#39#)) ((CUT (POR* #23# . #86=(#87=(POR* #82# . #85#))) ((ASSOCIATIVITY (POR* #87# . #28#) ((ASSOCIATIVITY (POR* #82# . #88=((POR* #39# . #28#))) ((CUT (POR* #78# . #89=((POR* #9# . #88#))) ((CUT (POR* #43# . #77#)" ∷ "((ASSOCIATIVITY (POR* #78# . #45#) ((CONTRACTION #90=(POR* #37# . #91=(#92=(POR* #75# . #45#))) ((CUT (POR* #90# . #93=(#90#)) ((CONTRACTION #94=(POR* #43# . #93#) ((CUT (POR* #94# . #95=(#94#)) ((CUT (POR* #75# . #95#) ((ASSOCIATIVITY (POR* #94# . #76#) ((CUT (POR* #43# . #96=(#97=(POR* #90# . #76#))) ((ASSOCIATIVITY (POR* #97# . #45#) ((CUT (POR* #90# . #91#) ((CONTRACTION #98=(POR* #92# . #93#) ((CUT (POR* #98# . #99=(#98#)) ((CUT (POR* #75# . #99#) ((ASSOCIATIVITY (POR* #98# . #76#) ((CUT (POR* #92# . #96#) ((ASSOCIATIVITY (POR* #97# . #91#) ((CUT (POR* #90# . #100=(#101=(POR* #75# ." ∷ "#91#))) ((CONTRACTION #102=(POR* #101# . #93#) ((CUT (POR* #102# . #103=(#102#)) ((CUT (POR* #37# . #103#) ((ASSOCIATIVITY (POR* #102# . #68#) ((CUT (POR* #101# . #104=(#105=(POR* #90# . #68#))) ((ASSOCIATIVITY (POR* #105# . #100#) ((CUT #106=(POR* #90# . #107=(#108=(POR* #37# . #100#))) ((CUT (POR* #108# . #93#) ((EXPANSION #106# ((INSTANTIATION #108# #51# ((X1 . #24#) (Y1 . #10#) (X2 . #24#) (Y2 . #24#))))) . #109=((PROPOSITIONAL-SCHEMA (POR* (PNOT* . #93#) . #93#))))) (PROPOSITIONAL-SCHEMA (POR* (PNOT* . #107#) . #107#)))))) (PROPOSITIONAL-SCHEMA (POR* (PNOT* . #104#) . #104#)))))) ." ∷ "#110=((PROPOSITIONAL-SCHEMA (POR* (PNOT* . #103#) . #103#))))) (CUT (POR* #111=(PNOT* . #68#) . #103#) ((ASSOCIATIVITY (POR* #102# . #112=(#111#)) ((EXPANSION (POR* #101# #113=(POR* #90# . #112#)) ((CUT #113# ((CUT (POR* #111# . #93#) ((ASSOCIATIVITY #113# ((CUT (POR* #37# . #114=(#115=(POR* #92# . #112#))) ((ASSOCIATIVITY (POR* #115# . #68#) ((EXPANSION (POR* #92# . #116=((POR* #111# . #68#))) . #117=(((PROPOSITIONAL-SCHEMA . #116#)))))) (PROPOSITIONAL-SCHEMA (POR* (PNOT* . #114#) . #114#)))))) . #109#)) (PROPOSITIONAL-SCHEMA (POR* (PNOT* . #112#) . #112#)))))))) . #110#))))))" ∷ "(PROPOSITIONAL-SCHEMA (POR* (PNOT* . #100#) . #100#)))))) . #118=((PROPOSITIONAL-SCHEMA (POR* (PNOT* . #96#) . #96#))))))) . #119=((PROPOSITIONAL-SCHEMA (POR* (PNOT* . #99#) . #99#))))) (CUT (POR* #120=(PNOT* . #76#) . #99#) ((ASSOCIATIVITY (POR* #98# . #121=(#120#)) ((EXPANSION (POR* #92# . #122=(#123=(POR* #90# . #121#))) . #124=(((CUT #123# ((CUT (POR* #120# . #93#) ((ASSOCIATIVITY #123# ((EXPANSION (POR* #37# #125=(POR* #92# . #121#)) ((CUT #125# ((CUT (POR* #120# . #91#) ((ASSOCIATIVITY #125# ((CUT (POR* #75# . #126=(#127=(POR* #43# . #121#))) ((ASSOCIATIVITY (POR* #127# . #76#)" ∷ "((EXPANSION (POR* #43# . #128=((POR* #120# . #76#))) ((PROPOSITIONAL-SCHEMA . #128#))))) (PROPOSITIONAL-SCHEMA (POR* (PNOT* . #126#) . #126#)))))) . #129=((PROPOSITIONAL-SCHEMA (POR* (PNOT* . #91#) . #91#))))) . #130=((PROPOSITIONAL-SCHEMA (POR* (PNOT* . #121#) . #121#))))))))) . #109#)) . #130#))))))) . #119#)))))) . #129#)))) . #118#)))) . #131=((PROPOSITIONAL-SCHEMA (POR* (PNOT* . #95#) . #95#))))) (CUT (POR* #120# . #95#) ((ASSOCIATIVITY (POR* #94# . #121#) ((EXPANSION (POR* #43# . #122#) . #124#))) . #131#)))))) (CUT (POR* #50# . #93#) ((ASSOCIATIVITY (POR* #90# . #132=(#50#)) ((EXPANSION" ∷ "(POR* #37# #133=(POR* #92# . #132#)) ((CUT #133# ((CUT (POR* #50# . #91#) ((ASSOCIATIVITY #133# ((EXPANSION (POR* #75# #134=(POR* #43# . #132#)) ((CUT #134# ((PROPOSITIONAL-SCHEMA (POR* #50# . #45#)) . #135=((PROPOSITIONAL-SCHEMA (POR* (PNOT* . #132#) . #132#))))))))) . #129#)) . #135#)))))) . #109#)))))))) (PROPOSITIONAL-SCHEMA (POR* (PNOT* . #77#) . #77#)))) (INSTANTIATION (POR* #50# . #89#) #51# (#53# #54# #55# . #136=((Y2 . #7#)))))))))) (PROPOSITIONAL-SCHEMA (POR* (PNOT* . #86#) . #86#)))))) . #84#)))))))) (PROPOSITIONAL-SCHEMA (POR* (PNOT* . #79#) . #79#)))))))) . #74#)))))))) ." ∷ "#137=((PROPOSITIONAL-SCHEMA (POR* (PNOT* . #58#) . #58#))))) . #74#)))) (PROPOSITIONAL-SCHEMA (POR* (PNOT* . #66#) . #66#)))))) . #138=((PROPOSITIONAL-SCHEMA (POR* (PNOT* . #60#) . #60#))))) . #56#)))) (PROPOSITIONAL-SCHEMA (POR* (PNOT* . #63#) . #63#)))))) . #139=((PROPOSITIONAL-SCHEMA (POR* (PNOT* . #62#) . #62#))))) (CUT (POR* #140=(PNOT* . #8#) . #62#) ((ASSOCIATIVITY (POR* #61# . #141=(#140#)) ((EXPANSION (POR* #23# #142=(POR* #59# . #141#)) ((CUT #142# ((CUT (POR* #140# . #60#) ((ASSOCIATIVITY #142# ((EXPANSION (POR* #37# #143=(POR* #57# . #141#)) ((CUT #143# ((CUT (POR* #140# . #58#)" ∷ "((ASSOCIATIVITY #143# ((EXPANSION (POR* #37# #144=(POR* #27# . #141#)) ((CUT #144# ((CUT (POR* #140# . #29#) ((ASSOCIATIVITY #144# ((CUT (POR* #9# . #145=(#146=(POR* #23# . #141#))) ((ASSOCIATIVITY (POR* #146# . #8#) ((EXPANSION (POR* #23# . #147=((POR* #140# . #8#))) #148=(#149=(PROPOSITIONAL-SCHEMA . #147#))))) (PROPOSITIONAL-SCHEMA (POR* (PNOT* . #145#) . #145#)))))) . #56#)) . #150=((PROPOSITIONAL-SCHEMA (POR* (PNOT* . #141#) . #141#))))))))) . #137#)) . #150#)))))) . #138#)) . #150#)))))) . #139#)))))) (CUT (POR* #151=(PNOT* . #28#) . #60#) ((ASSOCIATIVITY (POR* #59# . #152=(#151#))" ∷ "((EXPANSION (POR* #37# #153=(POR* #57# . #152#)) ((CUT #153# ((CUT (POR* #151# . #58#) ((ASSOCIATIVITY #153# ((EXPANSION (POR* #37# #154=(POR* #27# . #152#)) ((CUT #154# ((CUT (POR* #151# . #29#) ((ASSOCIATIVITY #154# ((EXPANSION (POR* #9# #155=(POR* #23# . #152#)) ((CUT #155# ((PROPOSITIONAL-SCHEMA (POR* #151# . #28#)) . #156=((PROPOSITIONAL-SCHEMA (POR* (PNOT* . #152#) . #152#))))))))) . #56#)) . #156#)))))) . #137#)) . #156#)))))) . #138#)))))) (CUT (POR* #111# . #58#) ((ASSOCIATIVITY (POR* #57# . #112#) ((CUT (POR* #37# . #157=(#158=(POR* #27# . #112#))) ((ASSOCIATIVITY (POR* #158# . #68#)" ∷ "((EXPANSION (POR* #27# . #116#) . #117#))) (PROPOSITIONAL-SCHEMA (POR* (PNOT* . #157#) . #157#)))))) . #137#)))))))))) . #148#)) (CONTRACTION #159=(POR* #151# . #19#) ((CUT (POR* #159# . #160=(#159#)) ((CUT (POR* #161=(PEQUAL* #3# . #162=(#163=(LOGIC.PROOFP . #4#))) . #160#) ((EXPANSION (POR* #159# . #164=(#161#)) ((AXIOM . #164#))) . #165=((PROPOSITIONAL-SCHEMA (POR* (PNOT* . #160#) . #160#))))) (CUT (POR* #166=(PNOT* . #164#) . #160#) ((ASSOCIATIVITY (POR* #159# . #167=(#166#)) ((CUT (POR* #151# . #168=(#169=(POR* #2# . #167#))) ((CUT (POR* #170=(PEQUAL* #163# . #6#) . #152#) ((CUT (POR*" ∷ "#171=(PEQUAL* #172=(IF #163# #173=(EQUAL . #174=(#12# #12#)) . #6#) . #175=(#173#)) . #176=(#170#)) ((INSTANTIATION (POR* #170# . #177=(#171#)) ((AXIOM (POR* (PEQUAL* X . #6#) (PEQUAL* (IF X Y Z) . #178=(Y))))) (#179=(X . #163#) (Y . #173#) (Z . #7#))) (PROPOSITIONAL-SCHEMA (POR* #180=(PNOT* . #176#) . #176#)))) (CUT (POR* #181=(PNOT* . #177#) . #152#) ((CONTRACTION #182=(POR* #151# . #183=(#181#)) ((CUT (POR* #182# . #184=(#182#)) ((CUT (POR* #185=(PEQUAL* #173# . #186=(#187=(QUOTE T))) . #184#) ((EXPANSION (POR* #182# . #188=(#185#)) ((CONTRACTION #185# ((CUT (POR* #185# . #188#) ((CUT (POR*" ∷ "#189=(PEQUAL* . #174#) . #188#) ((EXPANSION (POR* #185# . #190=(#189#)) ((INSTANTIATION #189# #36# . #47#))) (PROPOSITIONAL-SCHEMA (POR* #191=(PNOT* . #188#) . #188#)))) (INSTANTIATION (POR* (PNOT* . #190#) . #188#) ((AXIOM (POR* (PNOT* (PEQUAL* . #192=(X . #178#))) (PEQUAL* (EQUAL . #192#) . #186#)))) (#49# (Y . #12#))))))))) . #193=((PROPOSITIONAL-SCHEMA (POR* (PNOT* . #184#) . #184#))))) (CUT (POR* #191# . #184#) ((ASSOCIATIVITY (POR* #182# . #194=(#191#)) ((CUT (POR* #151# . #195=(#196=(POR* #181# . #194#))) ((CUT (POR* #196# . #152#) ((CUT (POR* #197=(PEQUAL* #172# . #186#) . #195#)" ∷ "((ASSOCIATIVITY (POR* #196# . #198=(#197#)) ((CONTRACTION #199=(POR* #181# . #200=(#201=(POR* #191# . #198#))) ((CUT (POR* #199# . #202=(#199#)) ((CONTRACTION #203=(POR* #181# . #202#) ((CUT (POR* #203# . #204=(#203#)) ((CONTRACTION #205=(POR* #197# . #204#) ((CUT (POR* #205# . #206=(#205#)) ((CUT (POR* #191# . #206#) ((ASSOCIATIVITY (POR* #205# . #194#) ((CUT (POR* #197# . #207=(#208=(POR* #203# . #194#))) ((ASSOCIATIVITY (POR* #208# . #198#) ((CUT #209=(POR* #203# . #200#) ((CUT (POR* #201# . #204#) ((ASSOCIATIVITY #209# ((CUT (POR* #181# . #210=(#211=(POR* #199# . #200#))) ((ASSOCIATIVITY" ∷ "(POR* #211# . #183#) ((CUT #212=(POR* #199# . #213=(#214=(POR* #201# . #183#))) ((CUT (POR* #214# . #202#) ((EXPANSION #212# ((CONTRACTION #214# ((CUT (POR* #214# . #213#) ((CUT (POR* #215=(PEQUAL* #172# . #216=(#172#)) . #213#) ((EXPANSION (POR* #214# . #217=(#215#)) . #218=(((INSTANTIATION #215# #36# ((X . #172#)))))) . #219=((PROPOSITIONAL-SCHEMA (POR* (PNOT* . #213#) . #213#))))) (CUT (POR* #220=(PNOT* . #217#) . #213#) ((ASSOCIATIVITY (POR* #214# . #221=(#220#)) ((ASSOCIATIVITY (POR* #201# . #222=(#223=(POR* #181# . #221#))) ((CUT (POR* #191# . #224=(#225=(POR* #197# . #222#)))" ∷ "((ASSOCIATIVITY (POR* #225# . #194#) ((CONTRACTION #226=(POR* #197# #227=(POR* #223# . #194#)) ((CUT (POR* #226# . #228=(#226#)) ((CUT (POR* #229=(PEQUAL* #173# . #175#) . #228#) ((EXPANSION (POR* #226# . #230=(#229#)) ((INSTANTIATION #229# #36# ((X . #173#))))) . #231=((PROPOSITIONAL-SCHEMA (POR* (PNOT* . #228#) . #228#))))) (CUT (POR* #232=(PNOT* . #230#) . #228#) ((ASSOCIATIVITY (POR* #226# . #233=(#232#)) ((CUT (POR* #197# . #234=(#235=(POR* #227# . #233#))) ((ASSOCIATIVITY (POR* #235# . #198#) ((ASSOCIATIVITY (POR* #227# . #236=((POR* #232# . #198#))) ((CUT (POR* #223# . #237=((POR* #191#" ∷ ". #236#))) ((CUT (POR* #238=(PEQUAL* #173# . #216#) . #222#) ((ASSOCIATIVITY (POR* #223# . #239=(#238#)) ((CONTRACTION #240=(POR* #181# . #241=(#242=(POR* #220# . #239#))) ((CUT (POR* #240# . #243=(#240#)) ((CONTRACTION #244=(POR* #238# . #243#) ((CUT (POR* #244# . #245=(#244#)) ((CUT (POR* #220# . #245#) ((ASSOCIATIVITY (POR* #244# . #221#) ((CUT (POR* #238# . #246=(#247=(POR* #240# . #221#))) ((ASSOCIATIVITY (POR* #247# . #239#) ((CUT (POR* #240# . #241#) ((CONTRACTION #248=(POR* #242# . #243#) ((CUT (POR* #248# . #249=(#248#)) ((CUT (POR* #220# . #249#) ((ASSOCIATIVITY (POR* #248# . #221#)" ∷ "((CUT (POR* #242# . #246#) ((ASSOCIATIVITY (POR* #247# . #241#) ((CUT (POR* #240# . #250=(#251=(POR* #220# . #241#))) ((CONTRACTION #252=(POR* #251# . #243#) ((CUT (POR* #252# . #253=(#252#)) ((CUT (POR* #181# . #253#) ((ASSOCIATIVITY (POR* #252# . #183#) ((CUT (POR* #251# . #254=(#255=(POR* #240# . #183#))) ((ASSOCIATIVITY (POR* #255# . #250#) ((CUT #256=(POR* #240# . #257=(#258=(POR* #181# . #250#))) ((CUT (POR* #258# . #243#) ((EXPANSION #256# ((INSTANTIATION #258# #51# (#259=(X1 . #172#) (Y1 . #173#) #260=(X2 . #172#) (Y2 . #172#))))) . #261=((PROPOSITIONAL-SCHEMA (POR* (PNOT* . #243#) ." ∷ "#243#))))) (PROPOSITIONAL-SCHEMA (POR* (PNOT* . #257#) . #257#)))))) (PROPOSITIONAL-SCHEMA (POR* (PNOT* . #254#) . #254#)))))) . #262=((PROPOSITIONAL-SCHEMA (POR* (PNOT* . #253#) . #253#))))) (CUT (POR* #263=(PNOT* . #183#) . #253#) ((ASSOCIATIVITY (POR* #252# . #264=(#263#)) ((EXPANSION (POR* #251# #265=(POR* #240# . #264#)) ((CUT #265# ((CUT (POR* #263# . #243#) ((ASSOCIATIVITY #265# ((CUT (POR* #181# . #266=(#267=(POR* #242# . #264#))) ((ASSOCIATIVITY (POR* #267# . #183#) ((EXPANSION (POR* #242# . #268=((POR* #263# . #183#))) . #269=(((PROPOSITIONAL-SCHEMA . #268#))))))" ∷ "(PROPOSITIONAL-SCHEMA (POR* (PNOT* . #266#) . #266#)))))) . #261#)) (PROPOSITIONAL-SCHEMA (POR* (PNOT* . #264#) . #264#)))))))) . #262#)))))) (PROPOSITIONAL-SCHEMA (POR* (PNOT* . #250#) . #250#)))))) . #270=((PROPOSITIONAL-SCHEMA (POR* (PNOT* . #246#) . #246#))))))) . #271=((PROPOSITIONAL-SCHEMA (POR* (PNOT* . #249#) . #249#))))) (CUT (POR* #272=(PNOT* . #221#) . #249#) ((ASSOCIATIVITY (POR* #248# . #273=(#272#)) ((EXPANSION (POR* #242# . #274=(#275=(POR* #240# . #273#))) . #276=(((CUT #275# ((CUT (POR* #272# . #243#) ((ASSOCIATIVITY #275# ((EXPANSION (POR* #181# #277=(POR* #242# . #273#))" ∷ "((CUT #277# ((CUT (POR* #272# . #241#) ((ASSOCIATIVITY #277# ((CUT (POR* #220# . #278=(#279=(POR* #238# . #273#))) ((ASSOCIATIVITY (POR* #279# . #221#) ((EXPANSION (POR* #238# . #280=((POR* #272# . #221#))) ((PROPOSITIONAL-SCHEMA . #280#))))) (PROPOSITIONAL-SCHEMA (POR* (PNOT* . #278#) . #278#)))))) . #281=((PROPOSITIONAL-SCHEMA (POR* (PNOT* . #241#) . #241#))))) . #282=((PROPOSITIONAL-SCHEMA (POR* (PNOT* . #273#) . #273#))))))))) . #261#)) . #282#))))))) . #271#)))))) . #281#)))) . #270#)))) . #283=((PROPOSITIONAL-SCHEMA (POR* (PNOT* . #245#) . #245#))))) (CUT (POR* #272# . #245#)" ∷ "((ASSOCIATIVITY (POR* #244# . #273#) ((EXPANSION (POR* #238# . #274#) . #276#))) . #283#)))))) (CUT (POR* #284=(PNOT* . #239#) . #243#) ((ASSOCIATIVITY (POR* #240# . #285=(#284#)) ((EXPANSION (POR* #181# #286=(POR* #242# . #285#)) ((CUT #286# ((CUT (POR* #284# . #241#) ((ASSOCIATIVITY #286# ((EXPANSION (POR* #220# #287=(POR* #238# . #285#)) ((CUT #287# ((PROPOSITIONAL-SCHEMA (POR* #284# . #239#)) . #288=((PROPOSITIONAL-SCHEMA (POR* (PNOT* . #285#) . #285#))))))))) . #281#)) . #288#)))))) . #261#)))))))) (PROPOSITIONAL-SCHEMA (POR* (PNOT* . #222#) . #222#)))) (INSTANTIATION (POR* #284# . #237#)" ∷ "#51# ((X1 . #173#) (Y1 . #172#) (X2 . #173#) (Y2 . #187#))))))))) (PROPOSITIONAL-SCHEMA (POR* (PNOT* . #234#) . #234#)))))) . #231#)))))))) (PROPOSITIONAL-SCHEMA (POR* (PNOT* . #224#) . #224#)))))))) . #219#)))))))) . #289=((PROPOSITIONAL-SCHEMA (POR* (PNOT* . #202#) . #202#))))) . #219#)))) (PROPOSITIONAL-SCHEMA (POR* (PNOT* . #210#) . #210#)))))) . #290=((PROPOSITIONAL-SCHEMA (POR* (PNOT* . #204#) . #204#))))) . #291=((PROPOSITIONAL-SCHEMA (POR* (PNOT* . #200#) . #200#))))))) (PROPOSITIONAL-SCHEMA (POR* (PNOT* . #207#) . #207#)))))) . #292=((PROPOSITIONAL-SCHEMA (POR* (PNOT* . #206#) ." ∷ "#206#))))) (CUT (POR* #293=(PNOT* . #194#) . #206#) ((ASSOCIATIVITY (POR* #205# . #294=(#293#)) ((EXPANSION (POR* #197# #295=(POR* #203# . #294#)) ((CUT #295# ((CUT (POR* #293# . #204#) ((ASSOCIATIVITY #295# ((EXPANSION (POR* #181# #296=(POR* #199# . #294#)) ((CUT #296# ((CUT (POR* #293# . #202#) ((ASSOCIATIVITY #296# ((EXPANSION (POR* #181# #297=(POR* #201# . #294#)) ((CUT #297# ((CUT (POR* #293# . #200#) ((ASSOCIATIVITY #297# ((CUT (POR* #191# . #298=(#299=(POR* #197# . #294#))) ((ASSOCIATIVITY (POR* #299# . #194#) ((EXPANSION (POR* #197# . #300=((POR* #293# . #194#))) ((PROPOSITIONAL-SCHEMA" ∷ ". #300#))))) (PROPOSITIONAL-SCHEMA (POR* (PNOT* . #298#) . #298#)))))) . #291#)) . #301=((PROPOSITIONAL-SCHEMA (POR* (PNOT* . #294#) . #294#))))))))) . #289#)) . #301#)))))) . #290#)) . #301#)))))) . #292#)))))) (CUT (POR* #302=(PNOT* . #198#) . #204#) ((ASSOCIATIVITY (POR* #203# . #303=(#302#)) ((EXPANSION (POR* #181# #304=(POR* #199# . #303#)) ((CUT #304# ((CUT (POR* #302# . #202#) ((ASSOCIATIVITY #304# ((EXPANSION (POR* #181# #305=(POR* #201# . #303#)) ((CUT #305# ((CUT (POR* #302# . #200#) ((ASSOCIATIVITY #305# ((EXPANSION (POR* #191# #306=(POR* #197# . #303#)) ((CUT #306#" ∷ "((PROPOSITIONAL-SCHEMA (POR* #302# . #198#)) . #307=((PROPOSITIONAL-SCHEMA (POR* (PNOT* . #303#) . #303#))))))))) . #291#)) . #307#)))))) . #289#)) . #307#)))))) . #290#)))))) (CUT (POR* #263# . #202#) ((ASSOCIATIVITY (POR* #199# . #264#) ((CUT (POR* #181# . #308=(#309=(POR* #201# . #264#))) ((ASSOCIATIVITY (POR* #309# . #183#) ((EXPANSION (POR* #201# . #268#) . #269#))) (PROPOSITIONAL-SCHEMA (POR* (PNOT* . #308#) . #308#)))))) . #289#)))))))) . #310=((PROPOSITIONAL-SCHEMA (POR* (PNOT* . #195#) . #195#))))) (CUT (POR* #302# . #152#) ((CUT (POR* #151# . #303#) ((INSTANTIATION (POR*" ∷ "#311=(PEQUAL* #172# . #6#) . #152#) ((AXIOM (POR* (PEQUAL* #26# . #6#) (PNOT* (PEQUAL* #46# . #6#))))) ((PROOF . X) . #48#)) (CUT (POR* #312=(PNOT* #311#) . #303#) ((CONTRACTION #313=(POR* #302# #312#) ((CUT (POR* #313# . #314=(#313#)) ((CUT (POR* #215# . #314#) ((EXPANSION (POR* #313# . #217#) . #218#) . #315=((PROPOSITIONAL-SCHEMA (POR* (PNOT* . #314#) . #314#))))) (CUT (POR* #220# . #314#) ((CONTRACTION #316=(POR* #313# . #221#) ((CUT (POR* #316# . #317=(#316#)) ((CUT (POR* #318=(PEQUAL* #187# . #6#) . #317#) ((ASSOCIATIVITY (POR* #316# . #319=(#318#)) ((ASSOCIATIVITY (POR* #313# ." ∷ "#320=((POR* #220# . #319#))) ((INSTANTIATION (POR* #302# (POR* #312# . #320#)) #51# (#259# (Y1 . #187#) #260# . #136#)))))) . #321=((PROPOSITIONAL-SCHEMA (POR* (PNOT* . #317#) . #317#))))) (CUT (POR* #322=(PNOT* . #319#) . #317#) ((EXPANSION (POR* #316# . #323=(#322#)) ((AXIOM . #323#))) . #321#)))))) . #315#)))))) . #307#)))) . #156#)))) . #310#)))) . #193#)))))) . #156#)))) (CUT (POR* #180# . #168#) ((ASSOCIATIVITY (POR* #169# . #324=(#180#)) ((CUT (POR* #2# . #325=(#326=(POR* #166# . #324#))) ((ASSOCIATIVITY (POR* #326# . #19#) ((CONTRACTION #327=(POR* #166# . #328=(#329=(POR* #180# ." ∷ "#19#))) ((CUT (POR* #327# . #330=(#327#)) ((CONTRACTION #331=(POR* #166# . #330#) ((CUT (POR* #331# . #332=(#331#)) ((CONTRACTION #333=(POR* #2# . #332#) ((CUT (POR* #333# . #334=(#333#)) ((CUT (POR* #180# . #334#) ((ASSOCIATIVITY (POR* #333# . #324#) ((CUT (POR* #2# . #335=(#336=(POR* #331# . #324#))) ((ASSOCIATIVITY (POR* #336# . #19#) ((CUT #337=(POR* #331# . #328#) ((CUT (POR* #329# . #332#) ((ASSOCIATIVITY #337# ((CUT (POR* #166# . #338=(#339=(POR* #327# . #328#))) ((ASSOCIATIVITY (POR* #339# . #167#) ((CUT #340=(POR* #327# . #341=(#342=(POR* #329# . #167#))) ((CUT (POR* #342# . #330#)" ∷ "((EXPANSION #340# ((CONTRACTION #342# ((CUT (POR* #342# . #341#) ((CUT (POR* #343=(PEQUAL* #3# . #344=(#3#)) . #341#) ((EXPANSION (POR* #342# . #345=(#343#)) ((INSTANTIATION #343# #36# ((X . #3#))))) . #346=((PROPOSITIONAL-SCHEMA (POR* (PNOT* . #341#) . #341#))))) (CUT (POR* #347=(PNOT* . #345#) . #341#) ((ASSOCIATIVITY (POR* #342# . #348=(#347#)) ((ASSOCIATIVITY (POR* #329# . #349=(#350=(POR* #166# . #348#))) ((CUT (POR* #180# . #351=(#352=(POR* #2# . #349#))) ((ASSOCIATIVITY (POR* #352# . #324#) ((CONTRACTION #353=(POR* #2# #354=(POR* #350# . #324#)) ((CUT (POR* #353# . #355=(#353#)) ((CUT" ∷ "(POR* #356=(PEQUAL* #163# . #162#) . #355#) ((EXPANSION (POR* #353# . #357=(#356#)) ((INSTANTIATION #356# #36# (#179#)))) . #358=((PROPOSITIONAL-SCHEMA (POR* (PNOT* . #355#) . #355#))))) (CUT (POR* #359=(PNOT* . #357#) . #355#) ((ASSOCIATIVITY (POR* #353# . #360=(#359#)) ((CUT (POR* #2# . #361=(#362=(POR* #354# . #360#))) ((ASSOCIATIVITY (POR* #362# . #19#) ((ASSOCIATIVITY (POR* #354# . #363=((POR* #359# . #19#))) ((CUT (POR* #350# . #364=((POR* #180# . #363#))) ((CUT (POR* #365=(PEQUAL* #163# . #344#) . #349#) ((ASSOCIATIVITY (POR* #350# . #366=(#365#)) ((CONTRACTION #367=(POR* #166# ." ∷ "#368=(#369=(POR* #347# . #366#))) ((CUT (POR* #367# . #370=(#367#)) ((CONTRACTION #371=(POR* #365# . #370#) ((CUT (POR* #371# . #372=(#371#)) ((CUT (POR* #347# . #372#) ((ASSOCIATIVITY (POR* #371# . #348#) ((CUT (POR* #365# . #373=(#374=(POR* #367# . #348#))) ((ASSOCIATIVITY (POR* #374# . #366#) ((CUT (POR* #367# . #368#) ((CONTRACTION #375=(POR* #369# . #370#) ((CUT (POR* #375# . #376=(#375#)) ((CUT (POR* #347# . #376#) ((ASSOCIATIVITY (POR* #375# . #348#) ((CUT (POR* #369# . #373#) ((ASSOCIATIVITY (POR* #374# . #368#) ((CUT (POR* #367# . #377=(#378=(POR* #347# . #368#))) ((CONTRACTION" ∷ "#379=(POR* #378# . #370#) ((CUT (POR* #379# . #380=(#379#)) ((CUT (POR* #166# . #380#) ((ASSOCIATIVITY (POR* #379# . #167#) ((CUT (POR* #378# . #381=(#382=(POR* #367# . #167#))) ((ASSOCIATIVITY (POR* #382# . #377#) ((CUT #383=(POR* #367# . #384=(#385=(POR* #166# . #377#))) ((CUT (POR* #385# . #370#) ((EXPANSION #383# ((INSTANTIATION #385# #51# ((X1 . #3#) (Y1 . #163#) (X2 . #3#) (Y2 . #3#))))) . #386=((PROPOSITIONAL-SCHEMA (POR* (PNOT* . #370#) . #370#))))) (PROPOSITIONAL-SCHEMA (POR* (PNOT* . #384#) . #384#)))))) (PROPOSITIONAL-SCHEMA (POR* (PNOT* . #381#) . #381#)))))) ." ∷ "#387=((PROPOSITIONAL-SCHEMA (POR* (PNOT* . #380#) . #380#))))) (CUT (POR* #388=(PNOT* . #167#) . #380#) ((ASSOCIATIVITY (POR* #379# . #389=(#388#)) ((EXPANSION (POR* #378# #390=(POR* #367# . #389#)) ((CUT #390# ((CUT (POR* #388# . #370#) ((ASSOCIATIVITY #390# ((CUT (POR* #166# . #391=(#392=(POR* #369# . #389#))) ((ASSOCIATIVITY (POR* #392# . #167#) ((EXPANSION (POR* #369# . #393=((POR* #388# . #167#))) . #394=(((PROPOSITIONAL-SCHEMA . #393#)))))) (PROPOSITIONAL-SCHEMA (POR* (PNOT* . #391#) . #391#)))))) . #386#)) (PROPOSITIONAL-SCHEMA (POR* (PNOT* . #389#) . #389#)))))))) . #387#))))))" ∷ "(PROPOSITIONAL-SCHEMA (POR* (PNOT* . #377#) . #377#)))))) . #395=((PROPOSITIONAL-SCHEMA (POR* (PNOT* . #373#) . #373#))))))) . #396=((PROPOSITIONAL-SCHEMA (POR* (PNOT* . #376#) . #376#))))) (CUT (POR* #397=(PNOT* . #348#) . #376#) ((ASSOCIATIVITY (POR* #375# . #398=(#397#)) ((EXPANSION (POR* #369# . #399=(#400=(POR* #367# . #398#))) . #401=(((CUT #400# ((CUT (POR* #397# . #370#) ((ASSOCIATIVITY #400# ((EXPANSION (POR* #166# #402=(POR* #369# . #398#)) ((CUT #402# ((CUT (POR* #397# . #368#) ((ASSOCIATIVITY #402# ((CUT (POR* #347# . #403=(#404=(POR* #365# . #398#))) ((ASSOCIATIVITY (POR* #404# ." ∷ "#348#) ((EXPANSION (POR* #365# . #405=((POR* #397# . #348#))) ((PROPOSITIONAL-SCHEMA . #405#))))) (PROPOSITIONAL-SCHEMA (POR* (PNOT* . #403#) . #403#)))))) . #406=((PROPOSITIONAL-SCHEMA (POR* (PNOT* . #368#) . #368#))))) . #407=((PROPOSITIONAL-SCHEMA (POR* (PNOT* . #398#) . #398#))))))))) . #386#)) . #407#))))))) . #396#)))))) . #406#)))) . #395#)))) . #408=((PROPOSITIONAL-SCHEMA (POR* (PNOT* . #372#) . #372#))))) (CUT (POR* #397# . #372#) ((ASSOCIATIVITY (POR* #371# . #398#) ((EXPANSION (POR* #365# . #399#) . #401#))) . #408#)))))) (CUT (POR* #409=(PNOT* . #366#) . #370#) ((ASSOCIATIVITY" ∷ "(POR* #367# . #410=(#409#)) ((EXPANSION (POR* #166# #411=(POR* #369# . #410#)) ((CUT #411# ((CUT (POR* #409# . #368#) ((ASSOCIATIVITY #411# ((EXPANSION (POR* #347# #412=(POR* #365# . #410#)) ((CUT #412# ((PROPOSITIONAL-SCHEMA (POR* #409# . #366#)) . #413=((PROPOSITIONAL-SCHEMA (POR* (PNOT* . #410#) . #410#))))))))) . #406#)) . #413#)))))) . #386#)))))))) (PROPOSITIONAL-SCHEMA (POR* (PNOT* . #349#) . #349#)))) (INSTANTIATION (POR* #409# . #364#) #51# ((X1 . #163#) (Y1 . #3#) (X2 . #163#) . #136#)))))))) (PROPOSITIONAL-SCHEMA (POR* (PNOT* . #361#) . #361#)))))) . #358#))))))))" ∷ "(PROPOSITIONAL-SCHEMA (POR* (PNOT* . #351#) . #351#)))))))) . #346#)))))))) . #414=((PROPOSITIONAL-SCHEMA (POR* (PNOT* . #330#) . #330#))))) . #346#)))) (PROPOSITIONAL-SCHEMA (POR* (PNOT* . #338#) . #338#)))))) . #415=((PROPOSITIONAL-SCHEMA (POR* (PNOT* . #332#) . #332#))))) . #416=((PROPOSITIONAL-SCHEMA (POR* (PNOT* . #328#) . #328#))))))) (PROPOSITIONAL-SCHEMA (POR* (PNOT* . #335#) . #335#)))))) . #417=((PROPOSITIONAL-SCHEMA (POR* (PNOT* . #334#) . #334#))))) (CUT (POR* #418=(PNOT* . #324#) . #334#) ((ASSOCIATIVITY (POR* #333# . #419=(#418#)) ((EXPANSION (POR* #2# #420=(POR* #331# . #419#))" ∷ "((CUT #420# ((CUT (POR* #418# . #332#) ((ASSOCIATIVITY #420# ((EXPANSION (POR* #166# #421=(POR* #327# . #419#)) ((CUT #421# ((CUT (POR* #418# . #330#) ((ASSOCIATIVITY #421# ((EXPANSION (POR* #166# #422=(POR* #329# . #419#)) ((CUT #422# ((CUT (POR* #418# . #328#) ((ASSOCIATIVITY #422# ((CUT (POR* #180# . #423=(#424=(POR* #2# . #419#))) ((ASSOCIATIVITY (POR* #424# . #324#) ((EXPANSION (POR* #2# . #425=((POR* #418# . #324#))) ((PROPOSITIONAL-SCHEMA . #425#))))) (PROPOSITIONAL-SCHEMA (POR* (PNOT* . #423#) . #423#)))))) . #416#)) . #426=((PROPOSITIONAL-SCHEMA (POR* (PNOT* . #419#) . #419#)))))))))" ∷ ". #414#)) . #426#)))))) . #415#)) . #426#)))))) . #417#)))))) (CUT (POR* #427=(PNOT* . #19#) . #332#) ((ASSOCIATIVITY (POR* #331# . #428=(#427#)) ((EXPANSION (POR* #166# #429=(POR* #327# . #428#)) ((CUT #429# ((CUT (POR* #427# . #330#) ((ASSOCIATIVITY #429# ((EXPANSION (POR* #166# #430=(POR* #329# . #428#)) ((CUT #430# ((CUT (POR* #427# . #328#) ((ASSOCIATIVITY #430# ((EXPANSION (POR* #180# #431=(POR* #2# . #428#)) ((CUT #431# (#432=(PROPOSITIONAL-SCHEMA . #433=((POR* #427# . #19#))) . #434=((PROPOSITIONAL-SCHEMA (POR* (PNOT* . #428#) . #428#))))))))) . #416#)) . #434#)))))) . #414#)) ." ∷ "#434#)))))) . #415#)))))) (CUT (POR* #388# . #330#) ((ASSOCIATIVITY (POR* #327# . #389#) ((CUT (POR* #166# . #435=(#436=(POR* #329# . #389#))) ((ASSOCIATIVITY (POR* #436# . #167#) ((EXPANSION (POR* #329# . #393#) . #394#))) (PROPOSITIONAL-SCHEMA (POR* (PNOT* . #435#) . #435#)))))) . #414#)))))))) (PROPOSITIONAL-SCHEMA (POR* (PNOT* . #325#) . #325#)))))) (PROPOSITIONAL-SCHEMA (POR* (PNOT* . #168#) . #168#)))))))) . #165#)))))))))) . #437=((PROPOSITIONAL-SCHEMA (POR* (PNOT* . #14#) . #14#))))) (PROPOSITIONAL-SCHEMA (POR* (PNOT* . #21#) . #21#)))))) (PROPOSITIONAL-SCHEMA (POR* (PNOT* . #17#) ." ∷ "#17#)))))) . #438=((PROPOSITIONAL-SCHEMA (POR* (PNOT* . #16#) . #16#))))) (CUT (POR* #140# . #16#) ((ASSOCIATIVITY (POR* #15# . #141#) ((EXPANSION (POR* #2# #439=(POR* #1# . #141#)) ((CUT #439# ((CUT (POR* #140# . #14#) ((ASSOCIATIVITY #439# ((EXPANSION (POR* #2# #440=(POR* #9# . #141#)) ((CUT #440# (#149# . #150#)))))) . #437#)) . #150#)))))) . #438#)))))) (CUT (POR* #427# . #14#) ((ASSOCIATIVITY (POR* #1# . #428#) ((CUT (POR* #2# . #441=(#442=(POR* #9# . #428#))) ((ASSOCIATIVITY (POR* #442# . #19#) ((EXPANSION (POR* #9# . #433#) (#432#)))) (PROPOSITIONAL-SCHEMA (POR* (PNOT* . #441#) ." ∷ "#441#)))))) . #437#)))))))" ∷ "(switch wrap)" ∷ "(verify refl (pequal* x x) (axiom (pequal* x x)))" ∷ [])

switched_checker_judges_the_next_proof : report wrap_book 10000000 ≡ says ("1 DEFINE WRAP accepted" ∷ "2 VERIFY CLAIM accepted" ∷ "3 SWITCH WRAP accepted" ∷ "4 VERIFY REFL accepted" ∷ "events 4 accepted 4 refused 0 level 2" ∷ []) Done
unfolding need must unless
switched_checker_judges_the_next_proof = refl

switched_checker_runs_within_the_step_limit : report wrap_book 10 ≡ says ("1 DEFINE WRAP accepted" ∷ "2 VERIFY CLAIM accepted" ∷ "3 SWITCH WRAP accepted" ∷ "4 VERIFY REFL refused STEPS" ∷ "events 4 accepted 3 refused 1 level 2" ∷ []) SomeRefused
unfolding need must unless
switched_checker_runs_within_the_step_limit = refl
