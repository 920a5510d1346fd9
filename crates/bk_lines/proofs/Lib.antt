mod Extended
