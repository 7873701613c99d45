mod Combined
